-- `inspection::inspection::last_head` meets its contract.
use Rattle.inspection.proofs.Ending.{last-head}
use borrow.Author.Rules.{rules}
use Rattle.inspection.proofs.inspection.last_head.Goals as goal

pub returns : goal.returns
returns c = search (rules, last-head)
