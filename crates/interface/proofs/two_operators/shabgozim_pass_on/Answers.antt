-- `interface::two_operators::shabgozim_pass_on` meets its contract.
use Rattle.interface.proofs.Ways.{pass-on-ill, pass-on-left, long, passed-answer, not-passed-answer, pass-on-state}
use Rattle.std.proofs.Common.{◌∙◌, rules}
use Rattle.interface.proofs.two_operators.shabgozim_pass_on.Goals as goal

pub returns-then-not-well_formed : goal.returns-then-not-well_formed
returns-then-not-well_formed c = search (rules, pass-on-ill, pass-on-left)

pub load-requires : goal.load-requires
load-requires c = search (rules, long)

pub store-requires : goal.store-requires
store-requires c = search (rules, long)

pub returns-in-Ok : goal.returns-in-Ok
returns-in-Ok c = search (rules, passed-answer, pass-on-state)

pub returns-in-Err : goal.returns-in-Err
returns-in-Err c =
    let own = c.from.ensures ∙ c.number-in-Err.ensures in search (rules, not-passed-answer, pass-on-state)
