-- `layout::writer::Writer::put_template` meets its contract. The loop's invariant: the template from its ith byte on is left.
use Rattle.layout.proofs.Filling.{Filling}
use Rattle.layout.proofs.writer.Writer.put_template.Given as goal

abbrev pub invariant-loop-i : goal.invariant-loop-i
invariant-loop-i l = Filling l.initial.self l.template l.values l.before l.self l.cursor l.i
