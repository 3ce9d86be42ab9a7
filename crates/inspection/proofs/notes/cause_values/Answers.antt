-- `inspection::notes::cause_values` meets its contract: a taken word has no cause.
use borrow.Author.Rules.{rules}
use Rattle.inspection.proofs.Outcomes.{taken_shown}
use Rattle.inspection.proofs.notes.cause_values.Goals as goal

pub returns-in-Taken : goal.returns-in-Taken
returns-in-Taken c = search (rules, taken_shown)
