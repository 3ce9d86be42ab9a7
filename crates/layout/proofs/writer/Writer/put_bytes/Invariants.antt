-- `layout::writer::Writer::put_bytes`: the bytes from the next on are left.
use lib.ListN.{drop}
use Rattle.layout.proofs.Adding.{Partly}
use Rattle.layout.proofs.writer.Writer.put_bytes.Given as goal

abbrev pub invariant-loop-byte : goal.invariant-loop-byte
invariant-loop-byte l = Partly l.initial.self l.bytes (drop l.byte-index l.bytes) l.self
