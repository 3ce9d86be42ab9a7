-- `interface::shabgozim_in_range` meets its contract.
use Rattle.interface.proofs.Ways.{range-ill, long, range-yes, range-no}
use borrow.Author.Rules.{rules}
use Rattle.interface.proofs.shabgozim_in_range.Goals as goal

pub returns-then-not-well_formed : goal.returns-then-not-well_formed
returns-then-not-well_formed c = search (rules, range-ill)

pub load-requires : goal.load-requires
load-requires c = search (rules, long)

pub returns-then-in_range : goal.returns-then-in_range
returns-then-in_range c = search (rules, range-yes)

pub returns : goal.returns
returns c = search (rules, range-no)
