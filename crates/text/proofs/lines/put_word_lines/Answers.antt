-- `text::lines::put_word_lines` meets its contract.
use Rattle.text.proofs.Printing.{printing-first, printing-next, printed}
use borrow.Author.Rules.{rules}
use Rattle.text.proofs.lines.put_word_lines.Goals as goal

pub loop-i-init : goal.loop-i-init
loop-i-init c = search (rules, printing-first)

pub loop-i-preserved : goal.loop-i-preserved
loop-i-preserved c = search (rules, printing-next)

pub returns : goal.returns
returns c = search (rules, printed)
