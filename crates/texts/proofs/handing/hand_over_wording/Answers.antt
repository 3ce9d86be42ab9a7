-- `texts::handing::hand_over_wording` meets its contract.
use Rattle.texts.proofs.Wording.{unworded-answer, worded-answer}
use Rattle.texts.proofs.Handed.{no-room-left, room_after}
use borrow.Author.Rules.{rules}
use Rattle.texts.proofs.handing.hand_over_wording.Goals as goal

pub returns-then-text-made : goal.returns-then-text-made
returns-then-text-made c = search (rules, unworded-answer, no-room-left)

pub returns : goal.returns
returns c = search (rules, worded-answer, room_after)
