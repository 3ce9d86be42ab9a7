-- Laws of `allowed`: what decides it, and what allowed data are bounded by.
-- Assumes nothing.
use mathlib.Core.Path.{◌≡◌, refl, sym, ◌∙◌}
use mathlib.Core.Bool.{Bool, true, false, not, ◌&&◌, ◌||◌, false≢true}
use Prim.Native.Nat.{ℕ, zero, suc, ◌<◌, ◌≤◌, ◌%◌}
use native.Mathlib.Nat.{mod-lt}
use native.Mathlib.Decide.{dec_lt}
use native.Mathlib.Omega.{arith}
use borrow.Author.Tests.{lt-leb, leb-true}
use lib.Dec.{leb, eqb, lit<}
use lib.ListN.{get_or-eq_default}
use Rattle.words.specs.Kinds.{rows, row, no_group, least, greatest, allowed, ccd_delay, cover, most_steps, row_of}
use Rattle.words.proofs.Tests.{and_left, and_right}
use Rattle.words.proofs.Tables.{Others, others-at}

pub no_row : (k : ℕ) → 28 ≤ k → row_of k ≡ row 1 0 no_group
unfolding rows
no_row k h = get_or-eq_default rows (row 1 0 no_group) h

-- a number that is no kind allows nothing
pub allowed-none : (k d : ℕ) → 28 ≤ k → false ≡ allowed k d
unfolding allowed least greatest
allowed-none k d h = rw (no_row k h) (go d)
  where
    go : (d : ℕ) → false ≡ (leb 1 d && leb d 0 && (not (eqb k cover) || leb (d % 128) most_steps))
    go zero = refl
    go (suc d) = simp (lt-leb (suc d) 0 (omega arith)) (sym (absorbed (leb 1 (suc d))))
      where
        absorbed : (a : Bool) → (a && false && (not (eqb k cover) || leb (suc d % 128) most_steps)) ≡ false
        absorbed true = refl
        absorbed false = refl

-- the least and the greatest data of a kind decide it
pub allowed-by : (lo hi k d : ℕ) → lo ≡ least k → hi ≡ greatest k
    → (leb lo d && leb d hi && (not (eqb k 27) || leb (d % 128) 81)) ≡ allowed k d
unfolding allowed
allowed-by lo hi k d l h = rw (l, h)

-- the least data of CCD DELAY, and of the other kinds
pub least-delay : (k : ℕ) → k ≡ ccd_delay → 5 ≡ least k
unfolding least
least-delay k e = rw e

pub least-others : (k : ℕ) → (k ≡ ccd_delay → ⊥) → k < 28 → 0 ≡ least k
unfolding least
least-others k ne h = others-at least 0 k 28 (tt, ne) h

-- the greatest data of kind j, and of the last kind
pub greatest_at : (k j v : ℕ) → k ≡ j → v ≡ greatest j → v ≡ greatest k
greatest_at k j v e is = rw e is

pub greatest_last : (k : ℕ) → Others (λ k. k) cover k 28 → k < 28 → 0x3FF ≡ greatest k
unfolding greatest
greatest_last k o h = rw (← others-at (λ k. k) cover k 28 o h)

-- only kinds allow anything
pub allowed-kind : (k d : ℕ) → allowed k d ≡ true → k < 28
allowed-kind k d e = go (dec_lt k 28)
  where
    go : Dec (k < 28) → k < 28
    go (yes h) = h
    go (no h) = absurd (false≢true (allowed-none k d (omega arith) ∙ e))

-- allowed data have ten bits
pub allowed-bits : (k d : ℕ) → allowed k d ≡ true → d < 1024
unfolding allowed greatest
allowed-bits k d e =
    let fits = and_left (leb (least k) d && leb d (greatest k)) _ e in
    let most = leb-true d (greatest k) (and_right (leb (least k) d) (leb d (greatest k)) fits) in
    omega (arith, mod-lt (row_of k).last {m = 1024} (lit< tt), most)
