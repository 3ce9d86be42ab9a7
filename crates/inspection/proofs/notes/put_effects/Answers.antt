-- `inspection::notes::put_effects` meets its contract.
use Rattle.inspection.proofs.Noting.{effects-none, effects-some}
use borrow.Author.Rules.{rules}
use Rattle.inspection.proofs.notes.put_effects.Goals as goal

pub returns-then-is_ignored : goal.returns-then-is_ignored
returns-then-is_ignored c = search (rules, effects-none)

pub returns : goal.returns
returns c = search (rules, effects-some)
