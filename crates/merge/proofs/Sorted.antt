-- The merge of two rising lists that share no tick rises.
-- Assumes nothing.
use mathlib.Core.Path.{◌≡◌, refl}
use mathlib.Core.Bool.{Bool, true, false, ◌||◌}
use mathlib.Core.List.{List, [], ◌∷◌, ◌++◌}
use Prim.Native.Nat.{ℕ}
use native.Mathlib.Omega.{arith}
use borrow.Author.Tests.{lt-ltb, ltb-false, eqb-false}
use lib.Dec.{eqb, ltb}
use Rattle.words.proofs.Tests.{and_left, and_right, or_left, or_right}
use Rattle.timed.specs.List.{rising}
use Rattle.merge.specs.Merge.{tick_in, ticks_in, merge, merged_part, has, share_tick}
use Rattle.merge.specs.Answer.{rest_of}
use Rattle.merge.proofs.ByTick.{Taken, by-ccd, by-infrared, Ended, no-ccd, no-infrared, step, by-turns}
use Rattle.merge.proofs.Ticks.{rising-tail}
use Rattle.merge.proofs.Rests.{merged-whole}

-- two lists that share no tick share none without the first entry of either
unshared-ccd : (x : ℕ) (xs vs : List ℕ) → share_tick (x ∷ xs) vs ≡ false → share_tick xs vs ≡ false
unfolding share_tick
unshared-ccd x xs vs h = or_right (has (ticks_in vs) (tick_in x)) (share_tick xs vs) h

unshared-infrared : (us : List ℕ) (y : ℕ) (ys : List ℕ) → share_tick us (y ∷ ys) ≡ false → share_tick us ys ≡ false
unfolding share_tick has ticks_in
unshared-infrared [] y ys h = refl
unshared-infrared (x ∷ us) y ys h =
    let here = eqb (tick_in x) (tick_in y) || has (ticks_in ys) (tick_in x) in
    let there = or_right here (share_tick us (y ∷ ys)) h in
    rw (or_right (eqb (tick_in x) (tick_in y)) (has (ticks_in ys) (tick_in x)) (or_left here (share_tick us (y ∷ ys)) h)) (unshared-infrared us y ys there)

-- and of their first ticks the one that is not before the other comes after it
unshared-first : (x y : ℕ) (xs ys : List ℕ) → ltb (tick_in x) (tick_in y) ≡ false → share_tick (x ∷ xs) (y ∷ ys) ≡ false
    → ltb (tick_in y) (tick_in x) ≡ true
unfolding share_tick has ticks_in
unshared-first x y xs ys p h =
    let here = eqb (tick_in x) (tick_in y) in
    let both = or_left here (has (ticks_in ys) (tick_in x)) (or_left (here || has (ticks_in ys) (tick_in x)) (share_tick xs (y ∷ ys)) h) in
    let apart = eqb-false (tick_in x) (tick_in y) both in
    let less = ltb-false (tick_in x) (tick_in y) p in
    lt-ltb (tick_in y) (tick_in x) (omega arith)

-- what comes after a tick in both lists comes after it in the merge
after-tick : (xs ys : List ℕ) (t : ℕ) → rising (t ∷ ticks_in xs) ≡ true → rising (t ∷ ticks_in ys) ≡ true → share_tick xs ys ≡ false
    → rising (t ∷ ticks_in (merge xs ys)) ≡ true
unfolding merge ticks_in rising
after-tick = by-turns Rises last next
  where
    Rises : List ℕ → List ℕ → Type 0
    Rises xs ys = (t : ℕ) → rising (t ∷ ticks_in xs) ≡ true → rising (t ∷ ticks_in ys) ≡ true → share_tick xs ys ≡ false
        → rising (t ∷ ticks_in (merge xs ys)) ≡ true

    last : (us vs : List ℕ) → Ended us vs → Rises us vs
    last us vs no-ccd t first second apart = second
    last us vs no-infrared t first second apart = first

    next : (us vs : List ℕ) (e : ℕ) (us' vs' : List ℕ) → Taken us vs e us' vs' → Rises us' vs' → Rises us vs
    next us vs e us' vs' (by-ccd x y xs ys p) later t first second apart =
        let a = ltb t (tick_in x) in
        let b = rising (tick_in x ∷ ticks_in xs) in
        let more = rising-tail t (tick_in y ∷ ticks_in ys) second in
        rw ((step (by-ccd x y xs ys p)).whole, and_left a b first)
        (later (tick_in x) (and_right a b first) (rw (p, more)) (unshared-ccd x xs (y ∷ ys) apart))
    next us vs e us' vs' (by-infrared x y xs ys p) later t first second apart =
        let a = ltb t (tick_in y) in
        let b = rising (tick_in y ∷ ticks_in ys) in
        let more = rising-tail t (tick_in x ∷ ticks_in xs) first in
        rw ((step (by-infrared x y xs ys p)).whole, and_left a b second)
        (later (tick_in y) (rw (unshared-first x y xs ys p apart, more)) (and_right a b second) (unshared-infrared (x ∷ xs) y ys apart))

-- the merge rises
pub merge-rises : (xs ys : List ℕ) → rising (ticks_in xs) ≡ true → rising (ticks_in ys) ≡ true → share_tick xs ys ≡ false
    → rising (ticks_in (merge xs ys)) ≡ true
unfolding merge ticks_in rising
merge-rises [] ys first second apart = second
merge-rises (x ∷ xs) [] first second apart = first
merge-rises (x ∷ xs) (y ∷ ys) first second apart = go (ltb (tick_in x) (tick_in y)) refl
  where
    go : (b : Bool) → ltb (tick_in x) (tick_in y) ≡ b → rising (ticks_in (merge (x ∷ xs) (y ∷ ys))) ≡ true
    go true p =
        rw (step (by-ccd x y xs ys p)).whole (after-tick xs (y ∷ ys) (tick_in x) first (rw (p, second)) (unshared-ccd x xs (y ∷ ys) apart))
    go false p =
        rw (step (by-infrared x y xs ys p)).whole
        (after-tick (x ∷ xs) ys (tick_in y) (rw (unshared-first x y xs ys p apart, first)) second (unshared-infrared (x ∷ xs) y ys apart))

-- the front of a rising list rises
front-rises : (l r : List ℕ) → rising (ticks_in (l ++ r)) ≡ true → rising (ticks_in l) ≡ true
unfolding ticks_in rising
front-rises [] r h = refl
front-rises (x ∷ []) r h = refl
front-rises (x ∷ (y ∷ l)) r h =
    let less = ltb (tick_in x) (tick_in y) in
    let more = rising (ticks_in (y ∷ (l ++ r))) in
    rw (and_left less more h) (front-rises (y ∷ l) r (and_right less more h))

-- the merged part rises
pub part-rises : (xs ys : List ℕ) → rising (ticks_in xs) ≡ true → rising (ticks_in ys) ≡ true → share_tick xs ys ≡ false
    → rising (ticks_in (merged_part xs ys)) ≡ true
part-rises xs ys first second apart =
    front-rises (merged_part xs ys) (rest_of xs ys) (rw (merged-whole xs ys) (merge-rises xs ys first second apart))
