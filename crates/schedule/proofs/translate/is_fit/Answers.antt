-- `schedule::translate::is_fit` meets its contract: something moves, or the rest is asked.
use Rattle.schedule.proofs.Translating.{way-moving, way-resting}
use borrow.Author.Rules.{rules}
use Rattle.schedule.proofs.translate.is_fit.Goals as goal

pub returns-then-not-at_rest : goal.returns-then-not-at_rest
returns-then-not-at_rest c = search (rules, way-moving)

pub returns : goal.returns
returns c = search (rules, way-resting)
