-- `interface::answers::encoded_number` meets its contract.
use Rattle.std.proofs.Common.{◌∙◌, rules}
use Rattle.interface.proofs.Numbers.{made-number, not-made-number}
use Rattle.interface.proofs.answers.encoded_number.Goals as goal

pub returns-in-Ok : goal.returns-in-Ok
returns-in-Ok c = search (rules, made-number)

pub returns-in-Err : goal.returns-in-Err
returns-in-Err c = not-made-number c.in-Err.is (c.from-in-Err.ensures ∙ c.number.ensures)
