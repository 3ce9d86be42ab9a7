-- `text::lines::put_word_lines`: the lines from the ith on are left.
use Rattle.text.proofs.Printing.{Printing}
use Rattle.text.proofs.lines.put_word_lines.Given as goal

abbrev pub invariant-loop-i : goal.invariant-loop-i
invariant-loop-i l = Printing l.initial.writer l.ticks l.words l.count l.writer l.i
