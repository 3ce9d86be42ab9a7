-- `texts::handing::hand_over_with` meets its contract.
use Rattle.texts.proofs.Handed.{no-room-state, room-state}
use borrow.Author.Rules.{rules}
use Rattle.texts.proofs.handing.hand_over_with.Goals as goal

pub returns-then-text-made : goal.returns-then-text-made
returns-then-text-made c = search (rules, no-room-state)

pub returns : goal.returns
returns c = search (rules, room-state)
