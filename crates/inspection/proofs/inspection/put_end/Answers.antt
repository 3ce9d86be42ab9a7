-- `inspection::inspection::put_end` meets its contract.
use Rattle.inspection.proofs.Ending.{written-end}
use borrow.Author.Rules.{rules}
use Rattle.inspection.proofs.inspection.put_end.Goals as goal

pub returns : goal.returns
returns c = search (rules, written-end)
