-- `texts::two_operators::shabgozim_operator_refusal` meets its contract.
use Rattle.texts.specs.Operators.{is_operator_refusal}
use Rattle.texts.proofs.OneLine.{no-words-length, no-words-left, known-length, known-left}
use borrow.Author.Rules.{rules}
use Rattle.texts.proofs.two_operators.shabgozim_operator_refusal.Goals as goal

pub returns-then-not-refusal : goal.returns-then-not-refusal
unfolding is_operator_refusal
returns-then-not-refusal c = search (rules, no-words-length, no-words-left)

pub returns : goal.returns
unfolding is_operator_refusal
returns c = search (rules, known-length, known-left)
