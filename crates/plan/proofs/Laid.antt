-- Values laid into a list one after another, from a place on.
-- Assumes nothing.
use mathlib.Core.Path.{◌≡◌, refl, sym, ap, ◌∙◌}
use mathlib.Core.List.{List, [], ◌∷◌, ◌++◌, append_assoc}
use Prim.Native.Nat.{ℕ, suc, min, ◌+◌, ◌-◌, ◌<◌, ◌≤◌}
use native.Mathlib.Decide.{dec_lt}
use native.Mathlib.Nat.{add-zero, add-suc, suc-add, zero-add}
use native.Mathlib.Omega.{arith}
use borrow.Rule.Slice.PartMut.{put_mid}
use Rattle.std.proofs.lemmas.List.{take-append-drop, length-take-le}
use lib.ListN.{length, set, take, drop, length-set, drop_of_length-le}
use lib.Seq.{sets, set_out, sets-eq, length-sets, drop-drop}

-- past the end nothing is written
pub sets-past : (vs l : List ℕ) (i : ℕ) → length l ≤ i → l ≡ sets l i vs
sets-past [] l i h = refl
sets-past (v ∷ vs) l i h =
    sym (set_out l i v h) ∙ sets-past vs (set l i v) (suc i) (rw (length-set l i v) (omega arith))

pub sets-append : (xs ys l : List ℕ) (i : ℕ) → sets l i (xs ++ ys) ≡ sets (sets l i xs) (i + length xs) ys
sets-append [] ys l i = rw (add-zero i)
sets-append (x ∷ xs) ys l i = rw (add-suc i (length xs), ← suc-add i (length xs)) (sets-append xs ys (set l i x) (suc i))

-- at the front, where there is room: the values, and every other place as it was
pub sets-front : (vs l : List ℕ) → length vs ≤ length l → sets l 0 vs ≡ vs ++ drop (length vs) l
sets-front vs l h = sets-eq vs l 0 (omega arith) ∙ rw (zero-add (length vs))

-- written as one piece: all the values, and the first n of them where there is room for no more
pub put-sets : {m : ℕ} (vs l : List ℕ) (i : ℕ) → i + length vs ≤ length l → m ≡ length vs → put_mid i m l vs ≡ sets l i vs
put-sets vs l i room same =
    rw same (sym (sets-eq vs l i room ∙ rw (append_assoc (take i l) vs (drop (i + length vs) l), drop-drop (length vs) i l)))

pub sets-piece : {m n : ℕ} {ys : List ℕ} (vs l : List ℕ) (i : ℕ) → i ≤ length l → n ≡ min (length vs) (length l - i) → m ≡ n → ys ≡ take n vs
    → put_mid i m l ys ≡ sets l i vs
sets-piece {m} {n} {ys} vs l i room most same is =
    rw is (put-sets (take n vs) l i (rw long (omega arith)) (same ∙ sym long) ∙ left (dec_lt n (length vs)) ∙ sym whole)
  where
    some : n ≤ length vs
    some = omega arith

    long : length (take n vs) ≡ n
    long = length-take-le n vs some

    whole : sets l i vs ≡ sets (sets l i (take n vs)) (i + n) (drop n vs)
    whole = ap (sets l i) (sym (take-append-drop n vs)) ∙ sets-append (take n vs) (drop n vs) l i ∙ rw long

    left : Dec (n < length vs) → sets l i (take n vs) ≡ sets (sets l i (take n vs)) (i + n) (drop n vs)
    left (yes h) = sets-past (drop n vs) (sets l i (take n vs)) (i + n) (rw (length-sets l i (take n vs)) (omega arith))
    left (no h) = rw (drop_of_length-le vs {i = n} (omega arith))
