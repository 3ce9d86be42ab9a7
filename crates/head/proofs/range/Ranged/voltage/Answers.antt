-- `head::range::Ranged::voltage` meets its contract: what it computes fits, since latches of a state in range are at most 15.
use native.Mathlib.Omega.{arith}
use Rattle.head.proofs.Bounds.{latches-most}
use Rattle.head.proofs.range.Ranged.voltage.Goals as goal

pub overflow_mul-value : goal.overflow_mul-value
overflow_mul-value c = omega (arith, latches-most)

pub overflow_add-value : goal.overflow_add-value
overflow_add-value c = omega (arith, latches-most)

pub overflow_mul-value-in_default : goal.overflow_mul-value-in_default
overflow_mul-value-in_default c = omega (arith, latches-most)

pub overflow_add-value-in_default : goal.overflow_add-value-in_default
overflow_add-value-in_default c = omega (arith, latches-most)
