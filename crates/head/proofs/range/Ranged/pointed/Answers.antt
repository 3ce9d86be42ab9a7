-- `head::range::Ranged::pointed` meets its contract: what it computes fits, since the begun set of a state in range holds allowed data.
use native.Mathlib.Omega.{arith}
use Rattle.head.proofs.Bounds.{bounds}
use Rattle.head.proofs.range.Ranged.pointed.Goals as goal

pub overflow_mul-sine : goal.overflow_mul-sine
overflow_mul-sine c = omega (arith, (bounds c.args.self.head c.args.self.ranged).begun)

pub overflow_add-sine : goal.overflow_add-sine
overflow_add-sine c = omega (arith, (bounds c.args.self.head c.args.self.ranged).begun)

pub overflow_mul-cosine : goal.overflow_mul-cosine
overflow_mul-cosine c = omega (arith, (bounds c.args.self.head c.args.self.ranged).begun)

pub overflow_add-cosine : goal.overflow_add-cosine
overflow_add-cosine c = omega (arith, (bounds c.args.self.head c.args.self.ranged).begun)
