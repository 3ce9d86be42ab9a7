-- `interface::shabgozim_power_on` meets its contract.
use Rattle.interface.proofs.Ways.{power-on-refused, power-on-left, power-on-answer, power-on-state}
use borrow.Author.Rules.{rules}
use Rattle.interface.proofs.shabgozim_power_on.Goals as goal

pub returns-then-state-ne-PLACES : goal.returns-then-state-ne-PLACES
returns-then-state-ne-PLACES c = search (rules, power-on-refused, power-on-left)

pub returns : goal.returns
returns c = search (rules, power-on-answer, power-on-state)
