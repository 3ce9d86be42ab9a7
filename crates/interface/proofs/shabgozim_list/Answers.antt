-- `interface::shabgozim_list` meets its contract.
use Rattle.interface.proofs.Ways.{list-ill, list_left, outcomes-left, long, list-given, list-refused, list-state, list-outcomes}
use Rattle.std.proofs.Common.{◌∙◌, rules}
use Rattle.interface.proofs.shabgozim_list.Goals as goal

pub returns-then-not-well_formed : goal.returns-then-not-well_formed
returns-then-not-well_formed c = search (rules, list-ill, list_left, outcomes-left)

pub load-requires : goal.load-requires
load-requires c = search (rules, long)

pub store-requires : goal.store-requires
store-requires c = search (rules, long)

pub returns-in-Ok : goal.returns-in-Ok
returns-in-Ok c = search (rules, list-given, list-state, list-outcomes)

pub returns-in-Err : goal.returns-in-Err
returns-in-Err c =
    let own = c.from.ensures ∙ c.number.ensures in search (rules, list-refused, list-state, list-outcomes)
