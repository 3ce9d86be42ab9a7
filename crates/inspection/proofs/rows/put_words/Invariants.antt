-- `inspection::rows::put_words` meets its contract. The loop's invariant: the words from the ith on are left.
use Rattle.inspection.proofs.Wording.{Wording}
use Rattle.inspection.proofs.rows.put_words.Given as goal

abbrev pub invariant-loop-i : goal.invariant-loop-i
invariant-loop-i l = Wording l.initial.writer l.list.words.now l.list.ticks.now l.writer l.head l.i
