-- `layout::writer::Writer::put_sine` meets its contract.
use borrow.Author.Tests.{lt-ltb, le-ltb}
use Rattle.layout.specs.Numbers.{sine_text}
use Rattle.layout.proofs.Adding.{adds_then}
use Rattle.layout.proofs.writer.Writer.put_sine.Goals as goal
use Rattle.layout.proofs.writer.Writer.put_sine.Goals.{then-register-lt4096, else-register-lt4096}

pub returns : goal.returns
unfolding sine_text
returns c =
    elim c.if-register-lt4096.branch [
      | then-register-lt4096 w ↦
          rw (lt-ltb _ _ w.if-register-lt4096.true) (adds_then (rw w.sign-is at c.put_byte.ensures) c.put_decimal.ensures)
      | else-register-lt4096 w ↦
          rw (le-ltb _ _ w.if-register-lt4096.false) (adds_then (rw w.sign-is at c.put_byte.ensures) c.put_decimal.ensures)
    ]
