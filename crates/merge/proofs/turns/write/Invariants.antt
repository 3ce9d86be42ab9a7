-- `merge::turns::write`: the first places have the entries that are merged, and there is room for the others.
use Prim.Native.Nat.{◌+◌, ◌-◌}
use lib.ListN.{length}
use Rattle.merge.proofs.Writing.{Writing}
use Rattle.merge.proofs.turns.write.Given as goal

abbrev pub invariant-loop-given : goal.invariant-loop-given
invariant-loop-given l = Writing l.initial.merged l.ccd l.infrared l.merged l.parts

abbrev pub decreases-loop-given : goal.decreases-loop-given
decreases-loop-given l = length l.ccd - l.parts.ccd + (length l.infrared - l.parts.infrared)
