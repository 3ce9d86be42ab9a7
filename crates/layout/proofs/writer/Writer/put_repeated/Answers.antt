-- `layout::writer::Writer::put_repeated` meets its contract.
use Prim.Native.Nat.{◌<◌}
use borrow.Author.Rules.{rules}
use native.Mathlib.Omega.{arith}
use lib.ListN.{length-replicate}
use Rattle.std.proofs.lemmas.List.{get_or-replicate}
use Rattle.layout.proofs.Adding.{partly-first}
use Rattle.layout.proofs.Copying.{copying-next, copied}
use Rattle.layout.proofs.writer.Writer.put_repeated.Goals as goal

pub loop-init : goal.loop-init
loop-init c = search (rules, partly-first)

pub loop-preserved : goal.loop-preserved
loop-preserved c =
    let more : c.loop.counter < c.args.count = omega arith in
    copying-next c.loop.invariant (rw length-replicate more) (rw get_or-replicate c.put_byte.ensures)

pub returns : goal.returns
returns c = copied c.loop.invariant (rw length-replicate (omega arith))
