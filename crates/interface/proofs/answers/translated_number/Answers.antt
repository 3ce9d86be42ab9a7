-- `interface::answers::translated_number` meets its contract.
use Rattle.std.proofs.Common.{rules}
use Rattle.interface.proofs.Translation.{done-count, done-end, refused-count, refused-place, done-answer, refused-answer}
use Rattle.interface.proofs.answers.translated_number.Goals as goal

pub packed-requires : goal.packed-requires
packed-requires c = search (rules, done-count, done-end)

pub packed-requires-in-Err : goal.packed-requires-in-Err
packed-requires-in-Err c = search (rules, refused-count, refused-place)

pub returns-in-Ok : goal.returns-in-Ok
returns-in-Ok c = search (rules, done-answer)

pub returns-in-Err : goal.returns-in-Err
returns-in-Err c = search (rules, refused-answer)
