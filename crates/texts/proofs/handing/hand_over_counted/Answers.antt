-- `texts::handing::hand_over_counted` meets its contract.
use Rattle.texts.proofs.Handed.{no-room-answer, no-room-left, room-answer, room_after}
use borrow.Author.Rules.{rules}
use Rattle.texts.proofs.handing.hand_over_counted.Goals as goal

pub returns-then-text-made : goal.returns-then-text-made
returns-then-text-made c = search (rules, no-room-answer, no-room-left)

pub returns : goal.returns
returns c = search (rules, room-answer, room_after)
