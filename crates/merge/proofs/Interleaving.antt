-- The merge has each list's entries in their own order, and nothing else; so has the merged part, of those that its counts name.
-- Assumes nothing.
use mathlib.Core.List.{List, [], ◌∷◌}
use Prim.Native.Nat.{ℕ}
use lib.ListN.{take}
use Rattle.merge.specs.Merge.{merge, merged_part}
use Rattle.merge.specs.Interleaved.{Interleaved, nothing, from-ccd, from-infrared}
use Rattle.merge.specs.Answer.{ccd_count, infrared_count}
use Rattle.merge.proofs.ByTick.{Taken, by-ccd, by-infrared, Ended, no-ccd, no-infrared, step, stopped, by-turns}
use Rattle.merge.proofs.Rests.{count-ccd, count-infrared, count-other-ccd, count-other-infrared, count-none-ccd, count-none-infrared}

-- one list alone
alone-ccd : (xs : List ℕ) → Interleaved xs [] xs
alone-ccd [] = nothing
alone-ccd (x ∷ xs) = from-ccd x (alone-ccd xs)

alone-infrared : (ys : List ℕ) → Interleaved [] ys ys
alone-infrared [] = nothing
alone-infrared (y ∷ ys) = from-infrared y (alone-infrared ys)

-- the merge
pub merge-interleaved : (xs ys : List ℕ) → Interleaved xs ys (merge xs ys)
unfolding merge
merge-interleaved = by-turns All last next
  where
    All : List ℕ → List ℕ → Type 0
    All xs ys = Interleaved xs ys (merge xs ys)

    last : (us vs : List ℕ) → Ended us vs → All us vs
    last us vs no-ccd = alone-infrared vs
    last us vs no-infrared = alone-ccd us

    next : (us vs : List ℕ) (e : ℕ) (us' vs' : List ℕ) → Taken us vs e us' vs' → All us' vs' → All us vs
    next us vs e us' vs' (by-ccd x y xs ys p) later = rw (step (by-ccd x y xs ys p)).whole (from-ccd x later)
    next us vs e us' vs' (by-infrared x y xs ys p) later = rw (step (by-infrared x y xs ys p)).whole (from-infrared y later)

-- the merged part: the first entries of each list
pub part-interleaved : (xs ys : List ℕ) → Interleaved (take (ccd_count xs ys) xs) (take (infrared_count xs ys) ys) (merged_part xs ys)
part-interleaved = by-turns Part last next
  where
    Part : List ℕ → List ℕ → Type 0
    Part xs ys = Interleaved (take (ccd_count xs ys) xs) (take (infrared_count xs ys) ys) (merged_part xs ys)

    last : (us vs : List ℕ) → Ended us vs → Part us vs
    last us vs over = rw (count-none-ccd us vs over, count-none-infrared us vs over, (stopped over).part) nothing

    next : (us vs : List ℕ) (e : ℕ) (us' vs' : List ℕ) → Taken us vs e us' vs' → Part us' vs' → Part us vs
    next us vs e us' vs' (by-ccd x y xs ys p) later =
        let taken = by-ccd x y xs ys p in
        rw (count-ccd taken, count-other-infrared taken, (step taken).part) (from-ccd x later)
    next us vs e us' vs' (by-infrared x y xs ys p) later =
        let taken = by-infrared x y xs ys p in
        rw (count-infrared taken, count-other-ccd taken, (step taken).part) (from-infrared y later)
