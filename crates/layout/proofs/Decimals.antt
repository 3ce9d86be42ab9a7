-- The decimal text of a number written digit by digit, and counted.
-- Assumes nothing.
use mathlib.Core.Path.{◌≡◌, sym, ap}
use mathlib.Core.List.{[], ◌∷◌}
use Prim.Native.Nat.{ℕ, ◌+◌, ◌/◌, ◌%◌, ◌^◌, ◌≤◌, ◌<◌}
use native.Mathlib.Omega.{arith}
use lib.ListN.{length}
use Rattle.layout.specs.Numbers.{digit, decimal_of}
use Rattle.layout.specs.Adds.{Adds}
use Rattle.layout.specs.declared.writer.Writer.{Writer}
use Rattle.layout.proofs.Digits.{decimal-one, decimal-more, longer, decimal-long}
use Rattle.layout.proofs.Adding.{adds_then}

pub decimal-few : (n : ℕ) {r : ℕ} → r ≡ length (decimal_of n) → n < 2 ^ 64 → r ≤ 20
decimal-few n is h = let few = decimal-long 19 n (omega arith) in omega arith

module _ (n : ℕ) where
  pub length-one : n < 10 → 1 ≡ length (decimal_of n)
  length-one h = sym (ap length (decimal-one n h))

  module _ {r : ℕ} (rest : r ≡ length (decimal_of (n / 10))) where
    pub length_more : 10 ≤ n → r + 1 ≡ length (decimal_of n)
    length_more h = omega (arith, longer n h)

  module _ {u v : Writer} where
    pub adds-one : n < 10 → Adds u v (digit (n % 10) ∷ []) → Adds u v (decimal_of n)
    adds-one h a = let same : n % 10 ≡ n = omega arith in rw (decimal-one n h, ← same) a

    pub adds-more : 10 ≤ n → Adds u v (decimal_of (n / 10)) → {w : Writer} → Adds v w (digit (n % 10) ∷ []) → Adds u w (decimal_of n)
    adds-more h first last = rw (decimal-more n h) (adds_then first last)
