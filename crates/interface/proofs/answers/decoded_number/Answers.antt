-- `interface::answers::decoded_number` meets its contract.
use Rattle.std.proofs.Common.{◌∙◌, rules}
use Rattle.interface.proofs.Numbers.{word-number, no-word-number}
use Rattle.interface.proofs.answers.decoded_number.Goals as goal

pub returns-in-Ok : goal.returns-in-Ok
returns-in-Ok c = search (rules, word-number)

pub returns-in-Err : goal.returns-in-Err
returns-in-Err c =
    no-word-number c.in-Err.is (c.from-in-Err.ensures ∙ c.number.ensures) (c.from-in-Err-2.ensures ∙ c.refused_kind.ensures)
