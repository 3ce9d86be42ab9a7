-- Which numbers are operators, as the code tests them.
-- Assumes nothing.
use mathlib.Core.Path.{◌≡◌, refl}
use Prim.Native.Nat.{ℕ, zero, suc}
use lib.Dec.{leb}
use native.Mathlib.Omega.{arith}
use borrow.Author.Tests.{lt-leb, ne_eqb}
use Rattle.words.specs.Kinds.{ccd, infrared}
use Rattle.operators.specs.Passing.{is_operator}

-- the operators are the numbers up to the infrared operator's
pub operator_least : (g : ℕ) → leb g infrared ≡ is_operator g
unfolding is_operator
operator_least zero = refl
operator_least (suc zero) = refl
operator_least (suc (suc g)) =
    rw (
      lt-leb (suc (suc g)) infrared (omega arith),
      ne_eqb (suc (suc g)) ccd (λ e. omega arith),
      ne_eqb (suc (suc g)) infrared (λ e. omega arith),
    )
