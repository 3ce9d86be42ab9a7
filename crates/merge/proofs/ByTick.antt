-- Merging by tick, turn by turn: what a turn gives, what there is where a list has run out, and the induction over the turns.
-- Assumes nothing.
use mathlib.Core.Path.{◌≡◌, refl}
use mathlib.Core.Bool.{Bool, true, false}
use mathlib.Core.List.{List, [], ◌∷◌}
use Prim.Native.Nat.{ℕ}
use native.Mathlib.Omega.{arith}
use borrow.Author.Tests.{lt-ltb}
use lib.Dec.{ltb}
use lib.ListN.{length}
use Rattle.merge.specs.Merge.{tick_in, ticks_in, merge, merged_part, ccd_rest, infrared_rest, has, share_tick}
use Rattle.merge.specs.Answer.{rest_of}

-- a turn of two lists, which gives an entry and leaves two lists
pub data Taken : List ℕ → List ℕ → ℕ → List ℕ → List ℕ → Type 0 where
  by-ccd : (x y : ℕ) (xs ys : List ℕ) → ltb (tick_in x) (tick_in y) ≡ true → Taken (x ∷ xs) (y ∷ ys) x xs (y ∷ ys)
  by-infrared : (x y : ℕ) (xs ys : List ℕ) → ltb (tick_in x) (tick_in y) ≡ false → Taken (x ∷ xs) (y ∷ ys) y (x ∷ xs) ys

-- two lists of which one has run out
pub data Ended : List ℕ → List ℕ → Type 0 where
  no-ccd : {ys : List ℕ} → Ended [] ys
  no-infrared : {x : ℕ} {xs : List ℕ} → Ended (x ∷ xs) []

-- what a turn leaves to be merged
pub record Step (us vs : List ℕ) (e : ℕ) (us' vs' : List ℕ) : Type 0 where
  pub whole : merge us vs ≡ e ∷ merge us' vs'
  pub part : merged_part us vs ≡ e ∷ merged_part us' vs'
  pub ccd : ccd_rest us vs ≡ ccd_rest us' vs'
  pub infrared : infrared_rest us vs ≡ infrared_rest us' vs'
  pub rest : rest_of us vs ≡ rest_of us' vs'

-- it leaves the rest of the merge
pub step : {us vs : List ℕ} {e : ℕ} {us' vs' : List ℕ} → Taken us vs e us' vs' → Step us vs e us' vs'
unfolding merge merged_part ccd_rest infrared_rest rest_of
step (by-ccd x y xs ys p) = record { whole = rw p; part = rw p; ccd = rw p; infrared = rw p; rest = rw p }
step (by-infrared x y xs ys p) = record { whole = rw p; part = rw p; ccd = rw p; infrared = rw p; rest = rw p }

-- what there is where a list has run out
pub record Stopped (us vs : List ℕ) : Type 0 where
  pub whole : merge us vs ≡ rest_of us vs
  pub part : merged_part us vs ≡ []
  pub ccd : ccd_rest us vs ≡ us
  pub infrared : infrared_rest us vs ≡ vs
  pub share : share_tick us vs ≡ false

-- an empty list shares no tick
share-none : (xs : List ℕ) → share_tick xs [] ≡ false
unfolding share_tick has ticks_in
share-none [] = refl
share-none (x ∷ xs) = share-none xs

-- nothing is merged any more
pub stopped : {us vs : List ℕ} → Ended us vs → Stopped us vs
unfolding merge merged_part ccd_rest infrared_rest rest_of share_tick
stopped no-ccd = record { whole = refl; part = refl; ccd = refl; infrared = refl; share = refl }
stopped (no-infrared {x = x} {xs = xs}) =
    let some = lt-ltb 0 (length (x ∷ xs)) (omega arith) in
    record { whole = rw some; part = refl; ccd = refl; infrared = refl; share = share-none (x ∷ xs) }

-- what holds where a list has run out, and at each turn if it does after it, holds of any two lists
module _ (P : List ℕ → List ℕ → Type 0) (last : (us vs : List ℕ) → Ended us vs → P us vs)
    (next : (us vs : List ℕ) (e : ℕ) (us' vs' : List ℕ) → Taken us vs e us' vs' → P us' vs' → P us vs) where
  pub by-turns : (xs ys : List ℕ) → P xs ys
  by-turns [] ys = last [] ys no-ccd
  by-turns (x ∷ xs) [] = last (x ∷ xs) [] no-infrared
  by-turns (x ∷ xs) (y ∷ ys) = go (ltb (tick_in x) (tick_in y)) refl (by-turns xs (y ∷ ys)) (by-turns (x ∷ xs) ys)
    where
      go : (b : Bool) → ltb (tick_in x) (tick_in y) ≡ b → P xs (y ∷ ys) → P (x ∷ xs) ys → P (x ∷ xs) (y ∷ ys)
      go true p first second = next (x ∷ xs) (y ∷ ys) x xs (y ∷ ys) (by-ccd x y xs ys p) first
      go false p first second = next (x ∷ xs) (y ∷ ys) y (x ∷ xs) ys (by-infrared x y xs ys p) second
