-- `interface::shabgozim_tick` meets its contract.
use Rattle.interface.proofs.Ways.{tick-ill, tick-left, long, tick-answer, tick-state}
use borrow.Author.Rules.{rules}
use Rattle.interface.proofs.shabgozim_tick.Goals as goal

pub returns-then-not-well_formed : goal.returns-then-not-well_formed
returns-then-not-well_formed c = search (rules, tick-ill, tick-left)

pub load-requires : goal.load-requires
load-requires c = search (rules, long)

pub store-requires : goal.store-requires
store-requires c = search (rules, long)

pub returns : goal.returns
returns c = search (rules, tick-answer, tick-state)
