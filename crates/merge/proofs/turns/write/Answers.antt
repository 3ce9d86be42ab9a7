-- `merge::turns::write` meets its contract. The loop's invariant: what is left of the merged part is to be written from place i + j on.
use Rattle.merge.proofs.Writing.{writing-place, writing-next, writing-over}
use borrow.Author.Rules.{rules}
use Rattle.merge.proofs.turns.write.Goals as goal

pub bounds-merged-parts : goal.bounds-merged-parts
bounds-merged-parts c = search (rules, writing-place)

pub loop-given-preserved : goal.loop-given-preserved
loop-given-preserved c = search (rules, writing-next)

pub returns : goal.returns
returns c = search (rules, writing-over)
