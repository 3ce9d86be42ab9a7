-- `inspection::inspection::put_inspection` meets its contract.
use Rattle.inspection.proofs.Ending.{written-inspection}
use borrow.Author.Rules.{rules}
use Rattle.inspection.proofs.inspection.put_inspection.Goals as goal

pub returns : goal.returns
returns c = search (rules, written-inspection)
