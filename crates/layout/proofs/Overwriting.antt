-- Values written over those of a list one after another, from a place on.
-- Assumes nothing.
use mathlib.Core.Path.{◌≡◌, refl, sym, ◌∙◌}
use mathlib.Core.List.{List, [], ◌∷◌, ◌++◌}
use Prim.Native.Nat.{ℕ, suc, ◌+◌, ◌≤◌}
use native.Mathlib.Nat.{add-zero, add-suc, suc-add, zero-add}
use native.Mathlib.Omega.{arith}
use lib.ListN.{length, set, drop, length-set}
use lib.Seq.{sets, set_out, sets-eq}

-- past the end nothing is written
pub sets-past : (vs l : List ℕ) (i : ℕ) → length l ≤ i → l ≡ sets l i vs
sets-past [] l i h = refl
sets-past (v ∷ vs) l i h =
    sym (set_out l i v h) ∙ sets-past vs (set l i v) (suc i) (rw (length-set l i v) (omega arith))

pub sets-append : (xs ys l : List ℕ) (i : ℕ) → sets l i (xs ++ ys) ≡ sets (sets l i xs) (i + length xs) ys
sets-append [] ys l i = rw (add-zero i)
sets-append (x ∷ xs) ys l i = rw (add-suc i (length xs), ← suc-add i (length xs)) (sets-append xs ys (set l i x) (suc i))

-- at the front, where there is room: the values, and every other place as it was
pub sets-front : (vs l : List ℕ) → length vs ≤ length l → sets l 0 vs ≡ vs ++ drop (length vs) l
sets-front vs l h = sets-eq vs l 0 (omega arith) ∙ rw (zero-add (length vs))
