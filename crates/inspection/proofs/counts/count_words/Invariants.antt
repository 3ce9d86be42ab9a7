-- `inspection::counts::count_words` meets its contract. The loop's invariant: the words from the ith on are left.
use Rattle.inspection.proofs.Counting.{Counting}
use Rattle.inspection.proofs.counts.count_words.Given as goal

abbrev pub invariant-loop-i : goal.invariant-loop-i
invariant-loop-i l = Counting l.list.words.now l.list.ticks.now l.counts l.head l.i
