-- `texts::why::shabgozim_explanation` meets its contract.
use Rattle.texts.proofs.Unpacking.{no-line-length, no-line-left, line-length, line-left}
use borrow.Author.Rules.{rules}
use Rattle.texts.proofs.why.shabgozim_explanation.Goals as goal

pub returns-then-not-answer : goal.returns-then-not-answer
returns-then-not-answer c = search (rules, no-line-length, no-line-left)

pub returns : goal.returns
returns c = search (rules, line-length, line-left)
