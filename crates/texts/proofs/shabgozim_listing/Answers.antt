-- `texts::shabgozim_listing` meets its contract.
use Rattle.interface.proofs.Ways.{long}
use Rattle.texts.proofs.Listing.{listing-ill, listing-ill-left}
use borrow.Author.Rules.{rules}
use Rattle.texts.proofs.shabgozim_listing.Goals as goal

pub returns-then-not-well_formed : goal.returns-then-not-well_formed
returns-then-not-well_formed c = search (rules, listing-ill, listing-ill-left)

pub put_listing-requires : goal.put_listing-requires
put_listing-requires c = search (rules, long)
