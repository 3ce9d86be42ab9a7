-- `report::printed::printed` meets its contract: each way through the code is a law of `Printing`.
use Rattle.layout.specs.Numbers.{ascii}
use Rattle.text.specs.Lines.{too_long_line}
use Rattle.report.proofs.Printing.{printed-long, printed-done, printed-refused}
use Rattle.layout.proofs.Adding.{adds_whole}
use borrow.Author.Rules.{rules}
use Rattle.report.proofs.printed.printed.Goals as goal

pub returns-then-plan-gt-MOST_INPUT : goal.returns-then-plan-gt-MOST_INPUT
unfolding too_long_line ascii
returns-then-plan-gt-MOST_INPUT c =
    printed-long _ _ (search rules) (search rules) (adds_whole c.new-writer.ensures.bytes c.new-writer.ensures.start c.len.ensures c.put_bytes.ensures)

pub returns-in-Ok : goal.returns-in-Ok
returns-in-Ok c = search (rules, printed-done)

pub returns-in-Err : goal.returns-in-Err
returns-in-Err c = search (rules, printed-refused, adds_whole)
