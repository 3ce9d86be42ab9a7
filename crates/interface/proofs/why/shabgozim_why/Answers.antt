-- `interface::why::shabgozim_why` meets its contract.
use Rattle.interface.proofs.Ways.{long}
use Rattle.interface.proofs.Packing.{why-ill, why-answer}
use borrow.Author.Rules.{rules}
use Rattle.interface.proofs.why.shabgozim_why.Goals as goal

pub returns-then-not-well_formed : goal.returns-then-not-well_formed
returns-then-not-well_formed c = search (rules, why-ill)

pub load-requires : goal.load-requires
load-requires c = search (rules, long)

pub returns : goal.returns
returns c = search (rules, why-answer)
