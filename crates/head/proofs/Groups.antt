-- The groups of kinds that share their flags, as the code finds them: kinds of a group have neighbouring numbers.
-- Assumes nothing.
use mathlib.Core.Path.{◌≡◌, refl, sym, ◌∙◌}
use mathlib.Core.Bool.{Bool, true, false, ◌&&◌, ◌||◌}
use mathlib.Core.List.{List, [], ◌∷◌}
use Prim.Native.Nat.{ℕ, zero, suc, ◌+◌, ◌≤◌}
use native.Mathlib.Nat.{add-zero, add-suc, suc-add}
use native.Mathlib.Decide.{ℕ_discrete}
use native.Mathlib.Omega.{arith}
use borrow.Author.Tests.{leb-true, le-leb, lt-leb, eq-eqb, ne_eqb}
use lib.Dec.{leb, eqb, leb-zero}
use Rattle.words.specs.Kinds as kind
use Rattle.head.specs.Flags.{one_of, for_vis, mirror_word, for_both}

-- two tests that say the same
pub same : (a b : Bool) → (a ≡ true → b ≡ true) → (b ≡ true → a ≡ true) → a ≡ b
same true true p q = refl
same false false p q = refl
same true false p q = sym (p refl)
same false true p q = q refl

pub same-leb : (a b c d : ℕ) → (a ≤ b → c ≤ d) → (c ≤ d → a ≤ b) → leb a b ≡ leb c d
same-leb a b c d p q =
    same (leb a b) (leb c d) (λ e. le-leb c d (p (leb-true a b e))) (λ e. le-leb a b (q (leb-true c d e)))

-- the n + 1 numbers from a on
from : ℕ → ℕ → List ℕ
from a zero = a ∷ []
from a (suc n) = a ∷ from (suc a) n

interval : (n a k : ℕ) → (leb a k && leb k (a + n)) ≡ one_of (from a n) k
unfolding one_of from
interval zero a k = go (ℕ_discrete k a)
  where
    none : (k ≡ a → ⊥) → (z : Bool) → leb a k ≡ z → (z && leb k a) ≡ false
    none ne false e = refl
    none ne true e = let l = leb-true a k e in lt-leb k a (omega arith)

    go : Dec (k ≡ a) → (leb a k && leb k (a + zero)) ≡ (eqb k a || false)
    go (yes e) = rw (e, add-zero a, le-leb a a (omega arith), eq-eqb a a refl)
    go (no ne) = rw (add-zero a, ne_eqb k a ne) (none ne (leb a k) refl)
interval (suc n) a k = go (ℕ_discrete k a) (interval n (suc a) k)
  where
    go : Dec (k ≡ a) → (leb (suc a) k && leb k (suc a + n)) ≡ one_of (from (suc a) n) k
        → (leb a k && leb k (a + suc n)) ≡ (eqb k a || one_of (from (suc a) n) k)
    go (yes e) rest = rw (e, le-leb a a (omega arith), le-leb a (a + suc n) (omega arith), eq-eqb a a refl)
    go (no ne) rest =
        rw (ne_eqb k a ne, ← rest, same-leb a k (suc a) k (λ h. omega arith) (λ h. omega arith), add-suc a n, suc-add a n)

-- the kinds of a group have neighbouring numbers
pub mirror-by : (k : ℕ) → (leb kind.sin_m k && leb k kind.cos_l) ≡ mirror_word k
unfolding mirror_word from
mirror-by k = interval 3 kind.sin_m k

module _ (k : ℕ) where
  pub vis-by : (leb kind.win_x1 k && leb k kind.ccd_lamp) ≡ for_vis k
  unfolding for_vis from
  vis-by = interval 6 kind.win_x1 k

  pub scan-by : (leb kind.sin_m k && leb k kind.switch) ≡ (mirror_word k || eqb k kind.switch)
  unfolding mirror_word one_of from
  scan-by = interval 4 kind.sin_m k ∙ go (eqb k kind.sin_m) (eqb k kind.sin_l) (eqb k kind.cos_m) (eqb k kind.cos_l) (eqb k kind.switch)
    where
      go : (a b c d e : Bool) → (a || (b || (c || (d || (e || false))))) ≡ ((a || (b || (c || (d || false)))) || e)
      go true b c d e = refl
      go false true c d e = refl
      go false false true d e = refl
      go false false false true e = refl
      go false false false false true = refl
      go false false false false false = refl

  pub both_by : leb k kind.stop ≡ for_both k
  unfolding for_both from
  both_by = rw (leb-zero k) at (interval 3 kind.nop k)
