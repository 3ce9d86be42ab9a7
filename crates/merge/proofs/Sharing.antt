-- Rising lists from turn to turn: what a turn leaves rises, and whether some tick stands in both lists.
-- Assumes nothing.
use mathlib.Core.Path.{◌≡◌, refl}
use mathlib.Core.Bool.{Bool, true, false, ◌||◌}
use mathlib.Core.List.{List, [], ◌∷◌}
use Prim.Native.Nat.{ℕ, ◌≤◌, ◌<◌}
use native.Mathlib.Omega.{arith}
use borrow.Author.Tests.{lt-ltb, le-ltb, ltb-true, ne_eqb}
use lib.Dec.{eqb, ltb}
use Rattle.words.proofs.Tests.{and_left, and_right}
use Rattle.timed.specs.List.{rising}
use Rattle.merge.specs.Merge.{tick_in, ticks_in, has, share_tick}
use Rattle.merge.proofs.ByTick.{Taken, by-ccd, by-infrared}
use Rattle.merge.proofs.Ticks.{rising-tail}

-- a tick before the first of a rising list stands not in it
not_there : (t u : ℕ) (us : List ℕ) → t < u → rising (u ∷ us) ≡ true → has (u ∷ us) t ≡ false
unfolding has rising
not_there t u [] less rises = rw (ne_eqb t u (λ e. omega arith))
not_there t u (v ∷ us) less rises =
    let less' = ltb-true u v (and_left (ltb u v) (rising (v ∷ us)) rises) in
    rw (ne_eqb t u (λ e. omega arith)) (not_there t v us (omega arith) (and_right (ltb u v) (rising (v ∷ us)) rises))

-- an entry that is not after the first of a rising list shares no tick with what follows
share-later : (y : ℕ) (ys : List ℕ) (x : ℕ) (xs : List ℕ) → tick_in y ≤ tick_in x → rising (ticks_in (x ∷ xs)) ≡ true
    → share_tick xs (y ∷ ys) ≡ share_tick xs ys
unfolding share_tick has ticks_in rising
share-later y ys x [] less rises = refl
share-later y ys x (z ∷ xs) less rises =
    let after = and_left (ltb (tick_in x) (tick_in z)) (rising (ticks_in (z ∷ xs))) rises in
    let less' = ltb-true (tick_in x) (tick_in z) after in
    let more = and_right (ltb (tick_in x) (tick_in z)) (rising (ticks_in (z ∷ xs))) rises in
    rw (ne_eqb (tick_in z) (tick_in y) (λ e. omega arith), share-later y ys z xs (omega arith) more)

-- a disjunction of three
pub or_assoc : (a b c : Bool) → (a || b || c) ≡ (a || (b || c))
or_assoc true b c = refl
or_assoc false b c = refl

-- a turn of two rising lists: what it leaves rises, and they share a tick where both have that of the entry, or where what it leaves does
pub record Moved (us vs : List ℕ) (e : ℕ) (us' vs' : List ℕ) (s : Bool) : Type 0 where
  pub taken : Taken us vs e us' vs'
  pub ccd-rises : rising (ticks_in us) ≡ true → rising (ticks_in us') ≡ true
  pub infrared-rises : rising (ticks_in vs) ≡ true → rising (ticks_in vs') ≡ true
  pub share : rising (ticks_in us) ≡ true → rising (ticks_in vs) ≡ true → share_tick us vs ≡ (s || share_tick us' vs')

module _ (x y : ℕ) (xs ys : List ℕ) where
  -- the CCD list gives the entry
  pub moved-ccd : tick_in x < tick_in y → Moved (x ∷ xs) (y ∷ ys) x xs (y ∷ ys) false
  unfolding share_tick ticks_in
  moved-ccd less =
      record {
        taken = by-ccd x y xs ys (lt-ltb (tick_in x) (tick_in y) less);
        ccd-rises = rising-tail (tick_in x) (ticks_in xs);
        infrared-rises = λ rises. rises;
        share = λ rises rises'. rw (not_there (tick_in x) (tick_in y) (ticks_in ys) less rises');
      }

  -- the infrared list gives it
  pub moved-infrared : tick_in y ≤ tick_in x → Moved (x ∷ xs) (y ∷ ys) y (x ∷ xs) ys (eqb (tick_in x) (tick_in y))
  unfolding share_tick has ticks_in
  moved-infrared less =
      record {
        taken = by-infrared x y xs ys (le-ltb (tick_in x) (tick_in y) less);
        ccd-rises = λ rises. rises;
        infrared-rises = rising-tail (tick_in y) (ticks_in ys);
        share =
            λ rises rises'. rw (share-later y ys x xs less rises)
            (or_assoc (eqb (tick_in x) (tick_in y)) (has (ticks_in ys) (tick_in x)) (share_tick xs ys));
      }
