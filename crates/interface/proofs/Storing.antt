-- Numbers stored one after another in an array.
-- Assumes nothing.
use mathlib.Core.Path.{◌≡◌, refl, sym, ◌∙◌, ap, subst}
use mathlib.Core.List.{List, [], ◌∷◌, ◌++◌, append_assoc, append-nil}
use Prim.Native.Nat.{ℕ, zero, suc, ◌+◌, ◌-◌, ◌≤◌}
use native.Mathlib.Numerals.{add-one}
use native.Mathlib.Omega.{arith}
use lib.ListN.{length, get_or, take, drop, drop_of_length-le, length-append, length-drop, length-take, take-append-drop}
use lib.Seq.{sets, append_snoc, set-append_seam}
use borrow.Rule.Slice.PartMut.{put_mid}

-- a list by its n elements from place k on
abbrev pub elements : ℕ → ℕ → List ℕ → List ℕ
elements zero k l = []
elements (suc n) k l = get_or l k 0 ∷ elements n (suc k) l

elements-cons : (n k x : ℕ) (l : List ℕ) → elements n (suc k) (x ∷ l) ≡ elements n k l
elements-cons zero k x l = refl
elements-cons (suc n) k x l = ap (λ (r : List ℕ). get_or l k 0 ∷ r) (elements-cons n (suc k) x l)

elements-all : (l : List ℕ) → elements (length l) 0 l ≡ l
elements-all [] = refl
elements-all (x ∷ l) = ap (λ (r : List ℕ). x ∷ r) (elements-cons (length l) 0 x l ∙ elements-all l)

pub listed : (l : List ℕ) (n : ℕ) → length l ≡ n → l ≡ elements n 0 l
listed l n h = rw (← h) (sym (elements-all l))

-- numbers stored after a front, and in all of an array
sets-after : (vs p q : List ℕ) → length vs ≤ length q → sets (p ++ q) (length p) vs ≡ p ++ (vs ++ drop (length vs) q)
sets-after [] p q h = refl
sets-after (v ∷ vs) p [] h = absurd (omega arith)
sets-after (v ∷ vs) p (y ∷ ys) h =
    let one : length (p ++ (v ∷ [])) ≡ suc (length p) = length-append p (v ∷ []) ∙ add-one (length p) in
    rw (set-append_seam p y ys v, ← append_snoc p v ys, ← one, sets-after vs (p ++ (v ∷ [])) ys (omega arith))
    (append_snoc p v (vs ++ drop (length vs) ys))

-- a copy into a part of an array
pub put-copied : (l ns : List ℕ) (at : ℕ) (c : List ℕ) → c ≡ ns → at + length ns ≤ length l
    → put_mid at (at + length ns - at) l c ≡ sets l at ns
put-copied l ns at c e h =
    let front : length (take at l) ≡ at = simp length-take (omega arith) in
    let few : at + length ns - at ≡ length ns = omega arith in
    rw (few, e) (sym (subst (λ (x : List ℕ). sets x at ns ≡ take at l ++ (ns ++ drop (length ns) (drop at l))) (take-append-drop at l) (rw front at (sets-after ns (take at l) (drop at l) (simp length-drop (omega arith))))))

-- three groups one after another fill an array that has room for just these
three : (l a b c : List ℕ) → length l ≡ length a + length b + length c
    → sets (sets (sets l 0 a) (length a) b) (length a + length b) c ≡ a ++ (b ++ c)
three l a b c h =
    let d : List ℕ = drop (length b) (drop (length a) l) in
    let left : length d ≡ length c = simp length-drop (omega arith) in
    rw (sets-after a [] l (omega arith), sets-after b a (drop (length a) l) (simp length-drop (omega arith)))
    (rw (← append_assoc a b d, ← length-append a b, sets-after c (a ++ b) d (omega arith), drop_of_length-le d {i = length c} (omega arith), append-nil c, append_assoc a b c))

-- x, y and z are the groups as they were made, n is the length of the first
module _ (l first middle all a b c x y z : List ℕ) (n : ℕ) (ea : x ≡ a) (eb : y ≡ b) (ec : z ≡ c) (long : length a ≡ n) where
  pub three-groups : length l ≡ n + length b + length c → first ≡ sets l 0 x → middle ≡ sets first n y
      → all ≡ sets middle (n + length b) z → all ≡ a ++ (b ++ c)
  three-groups h e₁ e₂ e₃ = rw (e₃, e₂, e₁, ea, eb, ec, ← long) (three l a b c (rw long h))
