-- The words of an order and their ticks laid into two lists from a place on, one after another.
-- Assumes nothing.
use mathlib.Core.Path.{◌≡◌, sym, ap, ◌∙◌}
use mathlib.Core.List.{List, ◌∷◌}
use Prim.Native.Nat.{ℕ, suc, ◌+◌, ◌-◌, ◌≤◌, ◌<◌}
use native.Mathlib.Omega.{arith}
use lib.ListN.{length, get_or, set, take, drop}
use lib.Seq.{sets, drop-cons}
use Rattle.schedule.specs.Filled.{up_from}

-- i of the n ticks from k on have been laid from a place on
module _ {whole : List ℕ} (l : List ℕ) (from k n i : ℕ) (left : whole ≡ sets l (from + i) (up_from (k + i) (n - i))) where
  pub ticks-next : i < n → whole ≡ sets (set l (from + i) (k + i)) (from + (i + 1)) (up_from (k + (i + 1)) (n - (i + 1)))
  unfolding up_from
  ticks-next more =
      let one : n - i ≡ suc (n - (i + 1)) = omega arith in
      let place : suc (from + i) ≡ from + (i + 1) = omega arith in
      let tick : k + i + 1 ≡ k + (i + 1) = omega arith in
      let first : up_from (k + i) (n - i) ≡ (k + i) ∷ up_from (k + i + 1) (n - (i + 1)) = ap (up_from (k + i)) one in
      left ∙ ap (sets l (from + i)) first ∙ rw (← place, ← tick)

  pub ticks-last : n ≤ i → l ≡ whole
  unfolding up_from
  ticks-last all = let none : n - i ≡ 0 = omega arith in sym (left ∙ rw none)

-- i of the first n of the words vs have been laid from a place on
module _ {whole : List ℕ} (l vs : List ℕ) (from n i : ℕ) (left : whole ≡ sets l (from + i) (take (n - i) (drop i vs))) where
  pub words-next : i < n → i < length vs → whole ≡ sets (set l (from + i) (get_or vs i 0)) (from + (i + 1)) (take (n - (i + 1)) (drop (i + 1) vs))
  words-next more there =
      let one : n - i ≡ suc (n - (i + 1)) = omega arith in
      let place : suc (from + i) ≡ from + (i + 1) = omega arith in
      let after : suc i ≡ i + 1 = omega arith in
      left ∙ rw (one, drop-cons vs i 0 there, after, ← place)

  pub words-last : n ≤ i → l ≡ whole
  words-last all = let none : n - i ≡ 0 = omega arith in sym (left ∙ rw none)
