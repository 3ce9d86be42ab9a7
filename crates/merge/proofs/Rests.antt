-- The merged part and the rest: together they are the merge; one list has run out; and where the rest starts in its list.
-- Assumes nothing.
use mathlib.Core.Path.{◌≡◌, ap, ◌∙◌}
use mathlib.Core.Logic.{◌⊎◌, inl, inr}
use mathlib.Core.List.{List, [], ◌∷◌, ◌++◌}
use Prim.Native.Nat.{ℕ, suc, ◌+◌, ◌-◌, ◌≤◌, ◌<◌}
use native.Mathlib.Omega.{arith}
use borrow.Author.Tests.{lt-ltb, le-ltb}
use lib.ListN.{length, drop, length-drop}
use Rattle.merge.specs.Merge.{merge, merged_part, ccd_rest, infrared_rest}
use Rattle.merge.specs.Answer.{ccd_count, infrared_count, rest_of}
use Rattle.merge.proofs.ByTick.{Taken, by-ccd, by-infrared, Ended, no-ccd, no-infrared, step, stopped, by-turns}

-- the merged part followed by the rest is the merge of the two whole lists
pub merged-whole : (xs ys : List ℕ) → merged_part xs ys ++ rest_of xs ys ≡ merge xs ys
merged-whole = by-turns Whole last next
  where
    Whole : List ℕ → List ℕ → Type 0
    Whole xs ys = merged_part xs ys ++ rest_of xs ys ≡ merge xs ys

    last : (us vs : List ℕ) → Ended us vs → Whole us vs
    last us vs over = rw ((stopped over).part, (stopped over).whole)

    next : (us vs : List ℕ) (e : ℕ) (us' vs' : List ℕ) → Taken us vs e us' vs' → Whole us' vs' → Whole us vs
    next us vs e us' vs' taken later =
        let s = step taken in
        rw (s.part, s.rest, s.whole) (ap (λ (l : List ℕ). e ∷ l) later)

-- after the merged part one list has ended
pub run_out : (xs ys : List ℕ) → (ccd_rest xs ys ≡ []) ⊎ (infrared_rest xs ys ≡ [])
run_out = by-turns RunOut last next
  where
    RunOut : List ℕ → List ℕ → Type 0
    RunOut xs ys = (ccd_rest xs ys ≡ []) ⊎ (infrared_rest xs ys ≡ [])

    last : (us vs : List ℕ) → Ended us vs → RunOut us vs
    last us vs no-ccd = inl (stopped no-ccd).ccd
    last us vs no-infrared = inr (stopped no-infrared).infrared

    next : (us vs : List ℕ) (e : ℕ) (us' vs' : List ℕ) → Taken us vs e us' vs' → RunOut us' vs' → RunOut us vs
    next us vs e us' vs' taken later = let s = step taken in rw (s.ccd, s.infrared) later

-- a rest is no longer than its list
record Few (us vs : List ℕ) : Type 0 where
  ccd : length (ccd_rest us vs) ≤ length us
  infrared : length (infrared_rest us vs) ≤ length vs

few : (xs ys : List ℕ) → Few xs ys
few = by-turns Few last next
  where
    last : (us vs : List ℕ) → Ended us vs → Few us vs
    last us vs over = let s = stopped over in record { ccd = rw s.ccd (omega arith); infrared = rw s.infrared (omega arith) }

    next : (us vs : List ℕ) (e : ℕ) (us' vs' : List ℕ) → Taken us vs e us' vs' → Few us' vs' → Few us vs
    next us vs e us' vs' (by-ccd x y xs ys p) later =
        let taken = by-ccd x y xs ys p in
        let s = step taken in
        let a = later.ccd in
        record { ccd = rw s.ccd (omega arith); infrared = rw s.infrared later.infrared }
    next us vs e us' vs' (by-infrared x y xs ys p) later =
        let taken = by-infrared x y xs ys p in
        let s = step taken in
        let a = later.infrared in
        record { ccd = rw s.ccd later.ccd; infrared = rw s.infrared (omega arith) }

-- the counts from turn to turn: the list that gives the entry has given one more
module _ {x y : ℕ} {xs ys : List ℕ} where
  -- the CCD list gives it
  pub count-ccd : Taken (x ∷ xs) (y ∷ ys) x xs (y ∷ ys) → ccd_count (x ∷ xs) (y ∷ ys) ≡ suc (ccd_count xs (y ∷ ys))
  unfolding ccd_count
  count-ccd taken = let h = (few xs (y ∷ ys)).ccd in rw (step taken).ccd (omega arith)

  pub count-other-infrared : Taken (x ∷ xs) (y ∷ ys) x xs (y ∷ ys) → infrared_count (x ∷ xs) (y ∷ ys) ≡ infrared_count xs (y ∷ ys)
  unfolding infrared_count
  count-other-infrared taken = rw (step taken).infrared

  -- the infrared list gives it
  pub count-infrared : Taken (x ∷ xs) (y ∷ ys) y (x ∷ xs) ys → infrared_count (x ∷ xs) (y ∷ ys) ≡ suc (infrared_count (x ∷ xs) ys)
  unfolding infrared_count
  count-infrared taken = let h = (few (x ∷ xs) ys).infrared in rw (step taken).infrared (omega arith)

  pub count-other-ccd : Taken (x ∷ xs) (y ∷ ys) y (x ∷ xs) ys → ccd_count (x ∷ xs) (y ∷ ys) ≡ ccd_count (x ∷ xs) ys
  unfolding ccd_count
  count-other-ccd taken = rw (step taken).ccd

-- where a list has run out, no list gives any
pub count-none-ccd : (us vs : List ℕ) → Ended us vs → ccd_count us vs ≡ 0
unfolding ccd_count
count-none-ccd us vs over = rw (stopped over).ccd (omega arith)

pub count-none-infrared : (us vs : List ℕ) → Ended us vs → infrared_count us vs ≡ 0
unfolding infrared_count
count-none-infrared us vs over = rw (stopped over).infrared (omega arith)

-- where the rest of each list starts, and how long the merged part is
pub record Split (us vs : List ℕ) : Type 0 where
  pub ccd : ccd_rest us vs ≡ drop (ccd_count us vs) us
  pub infrared : infrared_rest us vs ≡ drop (infrared_count us vs) vs
  pub long : length (merged_part us vs) ≡ ccd_count us vs + infrared_count us vs

-- for any two lists
pub split : (xs ys : List ℕ) → Split xs ys
split = by-turns Split last next
  where
    last : (us vs : List ℕ) → Ended us vs → Split us vs
    last us vs over =
        let s = stopped over in
        let n = count-none-ccd us vs over in
        let m = count-none-infrared us vs over in
        record { ccd = rw n s.ccd; infrared = rw m s.infrared; long = rw (n, m) (ap length s.part) }

    next : (us vs : List ℕ) (e : ℕ) (us' vs' : List ℕ) → Taken us vs e us' vs' → Split us' vs' → Split us vs
    next us vs e us' vs' (by-ccd x y xs ys p) later =
        let taken = by-ccd x y xs ys p in
        let s = step taken in
        record {
          ccd = s.ccd ∙ later.ccd ∙ rw (count-ccd taken);
          infrared = s.infrared ∙ later.infrared ∙ rw (count-other-infrared taken);
          long = rw (s.part, count-ccd taken, count-other-infrared taken) (let h = later.long in omega arith);
        }
    next us vs e us' vs' (by-infrared x y xs ys p) later =
        let taken = by-infrared x y xs ys p in
        let s = step taken in
        record {
          ccd = s.ccd ∙ later.ccd ∙ rw (count-other-ccd taken);
          infrared = s.infrared ∙ later.infrared ∙ rw (count-infrared taken);
          long = rw (s.part, count-infrared taken, count-other-ccd taken) (let h = later.long in omega arith);
        }

-- a count is at most its list
pub count-ccd-few : (xs ys : List ℕ) → ccd_count xs ys ≤ length xs
unfolding ccd_count
count-ccd-few xs ys = omega arith

pub count-infrared-few : (xs ys : List ℕ) → infrared_count xs ys ≤ length ys
unfolding infrared_count
count-infrared-few xs ys = omega arith

-- the rest is of the CCD list, from its count on, where that has not run out, and else of the infrared list
module _ (xs ys : List ℕ) where
  left-long : length (ccd_rest xs ys) ≡ length xs - ccd_count xs ys
  left-long = ap length (split xs ys).ccd ∙ length-drop (ccd_count xs ys) xs

  pub rest-ccd : ccd_count xs ys < length xs → rest_of xs ys ≡ drop (ccd_count xs ys) xs
  unfolding rest_of
  rest-ccd h =
      let long = left-long in
      rw (lt-ltb 0 (length (ccd_rest xs ys)) (omega arith)) (split xs ys).ccd

  pub rest-infrared : length xs ≤ ccd_count xs ys → rest_of xs ys ≡ drop (infrared_count xs ys) ys
  unfolding rest_of
  rest-infrared h =
      let long = left-long in
      rw (le-ltb 0 (length (ccd_rest xs ys)) (omega arith)) (split xs ys).infrared
