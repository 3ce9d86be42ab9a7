-- Which numbers of outcomes are causes'.
-- Assumes nothing.
use mathlib.Core.Path.{◌≡◌, refl}
use mathlib.Core.Bool.{Bool, true, false, ◌&&◌}
use Prim.Native.Nat.{ℕ, ◌≤◌}
use native.Mathlib.Decide.{ℕ_discrete}
use native.Mathlib.Omega.{arith}
use borrow.Author.Tests.{leb-true}
use lib.Dec.{leb}
use Rattle.words.proofs.Tests.{and_left, and_right}
use Rattle.head.specs.Numbers.{cause_number, is_cause}
use Rattle.head.specs.declared.word.Cause.{Cause}
use Rattle.head.specs.declared.word.Cause.TheVariants.{State, Busy, UnknownWord, Range, Turn}

-- a number that is that of no cause
pub no-cause : (n : ℕ) → ((c : Cause) → n ≡ cause_number c → ⊥) → is_cause n ≡ false
unfolding cause_number is_cause
no-cause n h = go (leb 21 n && leb n 25) refl
  where
    go : (z : Bool) → (leb 21 n && leb n 25) ≡ z → z ≡ false
    go false e = refl
    go true e =
        let low = leb-true 21 n (and_left (leb 21 n) (leb n 25) e) in
        let high = leb-true n 25 (and_right (leb 21 n) (leb n 25) e) in
        absurd (each (ℕ_discrete n 21) (ℕ_discrete n 22) (ℕ_discrete n 23) (ℕ_discrete n 24) low high)
      where
        each : Dec (n ≡ 21) → Dec (n ≡ 22) → Dec (n ≡ 23) → Dec (n ≡ 24) → 21 ≤ n → n ≤ 25 → ⊥
        each (yes a) b c d low high = h State a
        each (no a) (yes b) c d low high = h Busy b
        each (no a) (no b) (yes c) d low high = h UnknownWord c
        each (no a) (no b) (no c) (yes d) low high = h Range d
        each (no a) (no b) (no c) (no d) low high = h Turn (omega arith)
