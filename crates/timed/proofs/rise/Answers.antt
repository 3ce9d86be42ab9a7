-- `timed::rise` meets its contract: std's method asks the closure for each tick and the next.
use borrow.Author.Rules.{rules}
use lib.Dec.{ltb}
use Rattle.std.proofs.lemmas.List.Sorted.{answers_always}
use Rattle.timed.proofs.Rising.{rising-adjacent}
use Rattle.timed.proofs.rise.Goals as goal

pub returns : goal.returns
returns c = rising-adjacent _ _ (c.is_sorted_by.ensures.cases ltb (answers_always _ _ _ (λ f a r g h. search rules)))
