-- `merge::turns::walk`: so much of the two lists is merged on the way.
use Prim.Native.Nat.{◌+◌, ◌-◌}
use lib.ListN.{length}
use Rattle.merge.proofs.Walking.{Way}
use Rattle.merge.proofs.turns.walk.Given as goal

abbrev pub invariant-loop-given : goal.invariant-loop-given
invariant-loop-given l = Way l.ccd l.infrared l.parts l.same

abbrev pub decreases-loop-given : goal.decreases-loop-given
decreases-loop-given l = length l.ccd - l.parts.ccd + (length l.infrared - l.parts.infrared)
