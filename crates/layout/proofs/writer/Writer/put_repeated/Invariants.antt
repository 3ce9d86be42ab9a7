-- `layout::writer::Writer::put_repeated`: of the bytes, those from the next on are left.
use lib.ListN.{drop, replicate}
use Rattle.layout.proofs.Adding.{Partly}
use Rattle.layout.proofs.writer.Writer.put_repeated.Given as goal

abbrev pub invariant-loop : goal.invariant-loop
invariant-loop l = Partly l.initial.self (replicate l.count l.byte) (drop l.counter (replicate l.count l.byte)) l.self
