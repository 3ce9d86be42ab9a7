-- `interface::two_operators::shabgozim_merge` meets its contract.
use borrow.Author.Rules.{rules}
use Rattle.interface.proofs.Merging.{merge-answer}
use Rattle.interface.proofs.two_operators.shabgozim_merge.Goals as goal

pub returns : goal.returns
returns c = search (rules, merge-answer)
