-- `text::listing::listing` meets its contract.
use Rattle.layout.specs.Numbers.{ascii}
use Rattle.text.specs.Lines.{too_long_line}
use Rattle.text.proofs.Printed.{too_long, printed-done, printed-refused}
use Rattle.layout.proofs.Adding.{adds_whole}
use borrow.Author.Rules.{rules}
use Rattle.text.proofs.listing.listing.Goals as goal

pub returns-then-plan-gt-MOST_INPUT : goal.returns-then-plan-gt-MOST_INPUT
unfolding too_long_line ascii
returns-then-plan-gt-MOST_INPUT c = too_long _ _ (search rules) (search rules) (adds_whole c.new-writer.ensures.bytes c.new-writer.ensures.start c.len.ensures c.put_bytes.ensures)

pub returns-in-Ok : goal.returns-in-Ok
returns-in-Ok c = search (rules, printed-done)

pub returns-in-Err : goal.returns-in-Err
returns-in-Err c = search (rules, printed-refused, adds_whole)
