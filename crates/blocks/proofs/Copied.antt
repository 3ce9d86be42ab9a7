-- What copies into the two parts of a slice give.
-- Assumes nothing.
use Rattle.std.proofs.Common.{◌≡◌, ℕ, ◌-◌, List, [], ◌++◌, length, take, drop, refl, arith, append-nil, length-drop, drop_of_length-le}
use Rattle.std.proofs.Math.Seq.{take_at}
use borrow.Rule.Slice.PartMut.{put_mid}

-- s in the front of d, and then t in what is left of it
pub copied-both : (d s t u v : List ℕ) → s ≡ u → t ≡ v
    → put_mid (length u) (length (s ++ drop (length u) d) - length u) (s ++ drop (length u) d) t ≡ u ++ v
copied-both d s t u v front back =
    let all = u ++ drop (length u) d in
    let k = length all - length u in
    let first : take (length u) all ≡ u = take_at u (drop (length u) d) (length u) refl in
    let none : drop k (drop (length u) all) ≡ [] = drop_of_length-le (drop (length u) all) {i = k} (omega (arith, length-drop (length u) all)) in
    rw (front, back, first, none, append-nil v)
