-- `layout::writer::Writer::put_field` meets its contract: where there is room, spaces and then the value.
use borrow.Author.Tests.{eq-eqb, le-leb, ne_eqb}
use Rattle.layout.specs.Fields.{field_text}
use Rattle.layout.proofs.Adding.{adds_then}
use Rattle.layout.proofs.writer.Writer.put_field.Goals as goal
use Rattle.layout.proofs.writer.Writer.put_field.Goals.{then-mark-ne-PLAIN, else-mark-ne-PLAIN}

pub returns : goal.returns
unfolding field_text
returns c =
    elim c.if-mark-ne-PLAIN.branch [
      | then-mark-ne-PLAIN w ↦
          rw (← c.value_length-length.ensures, le-leb _ _ c.if-width-length.false, ne_eqb _ _ w.if-mark-ne-PLAIN.true)
          (adds_then w.put_repeated-then-mark-ne-PLAIN.ensures (rw w.self-is at c.put_value.ensures))
      | else-mark-ne-PLAIN w ↦
          rw (← c.value_length-length.ensures, le-leb _ _ c.if-width-length.false, eq-eqb _ _ w.if-mark-ne-PLAIN.false)
          (rw w.self-is at c.put_value.ensures)
    ]
