-- `texts::shabgozim_list_refusal` meets its contract.
use Rattle.texts.proofs.Reading.{list-refusal-none, list-refusal-kept, list-refusal-length, list-refusal-left}
use borrow.Author.Rules.{rules}
use Rattle.texts.proofs.shabgozim_list_refusal.Goals as goal

pub returns-then-not-refusal : goal.returns-then-not-refusal
returns-then-not-refusal c = search (rules, list-refusal-none, list-refusal-kept)

pub returns : goal.returns
returns c = search (rules, list-refusal-length, list-refusal-left)
