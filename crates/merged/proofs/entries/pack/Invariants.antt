-- `merged::entries::pack`: the first i entries are packed.
use Rattle.merged.proofs.Packing.{Packing}
use Rattle.merged.proofs.entries.pack.Given as goal

abbrev pub invariant-loop-i : goal.invariant-loop-i
invariant-loop-i l = Packing l.ticks l.words l.list l.i
