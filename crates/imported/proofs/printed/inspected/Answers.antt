-- `imported::printed::inspected` meets its contract.
use borrow.Author.Rules.{rules}
use Rattle.imported.proofs.Printing.{inspected-done, inspected-never}
use Rattle.imported.proofs.printed.inspected.Goals as goal

pub returns-in-Ok : goal.returns-in-Ok
returns-in-Ok c = inspected-done _ _ c.requires _ c.in-Ok.ensures.value (search rules) c.in-Ok.ensures.out_after

pub returns-in-Err : goal.returns-in-Err
returns-in-Err c = inspected-never _ _ c.requires _ c.in-Err.ensures.value
