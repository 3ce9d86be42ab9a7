-- `texts::shabgozim_refusal` meets its contract.
use Rattle.texts.proofs.Wording.{refusal-none, refusal-kept, refusal-length, refusal-left}
use borrow.Author.Rules.{rules}
use Rattle.texts.proofs.shabgozim_refusal.Goals as goal

pub returns-then-not-refusal : goal.returns-then-not-refusal
returns-then-not-refusal c = search (rules, refusal-none, refusal-kept)

pub returns : goal.returns
returns c = search (rules, refusal-length, refusal-left)
