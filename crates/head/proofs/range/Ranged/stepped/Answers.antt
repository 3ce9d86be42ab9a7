-- `head::range::Ranged::stepped` meets its contract.
use Rattle.head.proofs.Giving.{number_fits, step-ranged, step-head, step-number}
use borrow.Author.Rules.{rules}
use Rattle.head.proofs.range.Ranged.stepped.Goals as goal

pub overflow_cast-number : goal.overflow_cast-number
overflow_cast-number c = search (rules, number_fits)

pub returns : goal.returns
returns c = search (rules, step-head, step-number)

pub invariant_of-result : goal.invariant_of-result
invariant_of-result c = search (rules, step-ranged)
