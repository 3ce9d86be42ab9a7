-- Single bytes: letters in upper case, the values of digits, and a number that grows by one.
-- Assumes nothing.
use mathlib.Core.Path.{◌≡◌, refl}
use mathlib.Core.Bool.{Bool, true, false, cond, ◌&&◌}
use Prim.Native.Nat.{ℕ, ◌-◌, ◌≤◌, ◌<◌}
use native.Mathlib.Omega.{arith}
use borrow.Author.Tests.{leb-true, lt-ltb, le-ltb}
use lib.Dec.{leb, ltb}
use Rattle.words.proofs.Tests.{and_left}
use Rattle.import.specs.Line.{upper, digit_value}

module _ (b : ℕ) where
  pub upper-other : (leb 97 b && leb b 102) ≡ false → b ≡ upper b
  unfolding upper
  upper-other e = rw e

  pub upper-least : 65 ≤ b → 65 ≤ upper b
  unfolding upper
  upper-least h = go (leb 97 b && leb b 102) refl
    where
      go : (z : Bool) → (leb 97 b && leb b 102) ≡ z → 65 ≤ cond z (b - 32) b
      go true e = omega (arith, leb-true 97 b (and_left (leb 97 b) (leb b 102) e))
      go false e = h

  pub upper-most : b < 256 → upper b < 256
  unfolding upper
  upper-most h = go (leb 97 b && leb b 102)
    where
      go : (z : Bool) → cond z (b - 32) b < 256
      go true = omega arith
      go false = h

  pub value-digit : b < 65 → b - 48 ≡ digit_value b
  unfolding digit_value
  value-digit h = rw (lt-ltb b 65 h)

  pub value-letter : 65 ≤ b → {u : ℕ} → u ≡ upper b → u - 55 ≡ digit_value b
  unfolding digit_value
  value-letter h e = rw (le-ltb b 65 h, e)

  pub letter-takes : 65 ≤ b → {u : ℕ} → u ≡ upper b → 55 ≤ u
  letter-takes h e = omega (arith, upper-least h)

  pub value-small : b < 256 → digit_value b < 256
  unfolding digit_value
  value-small h = go (ltb b 65) (upper-most h)
    where
      go : (z : Bool) → upper b < 256 → cond z (b - 48) (upper b - 55) < 256
      go true u = omega arith
      go false u = omega arith
