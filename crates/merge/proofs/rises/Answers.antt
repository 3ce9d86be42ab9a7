-- `merge::rises` meets its contract: each entry's tick is before that of the next.
use borrow.Author.Rules.{rules}
use lib.Dec.{ltb}
use Rattle.std.proofs.Common.{tests}
use Rattle.std.proofs.lemmas.List.Sorted.{answers_always}
use Rattle.merge.specs.Merge.{tick_in}
use Rattle.merge.proofs.Ticks.{rising-by-entries}
use Rattle.merge.proofs.rises.Goals as goal

pub returns : goal.returns
returns c =
    rising-by-entries _ _
    (c.is_sorted_by.ensures.cases (λ x y. ltb (tick_in x) (tick_in y)) (answers_always _ _ _ (λ f a r f' q. search (rules, tests))))
