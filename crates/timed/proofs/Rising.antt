-- Rising ticks as std's method tests them, and what a list is.
-- Assumes nothing.
use mathlib.Core.Path.{◌≡◌, refl}
use mathlib.Core.Bool.{Bool, true, false, ◌&&◌}
use mathlib.Core.List.{List, [], ◌∷◌}
use Prim.Native.Nat.{ℕ, zero, suc, ◌+◌, ◌≤◌, ◌<◌}
use native.Mathlib.Numerals.{add-one}
use native.Mathlib.Omega.{arith}
use borrow.Author.Tests.{eqb-true, leb-true}
use lib.Dec.{eqb, leb, ltb}
use lib.ListN.{length, get_or}
use Rattle.std.specs.List.{IsAllAdjacentAnswer}
use Rattle.words.proofs.Tests.{and_left, and_right}
use Rattle.timed.specs.List.{rising, most_words, is_list}

-- ticks rise where each is below the next, and not where one is not
rises : (ts : List ℕ) → ((k d : ℕ) → k + 1 < length ts → true ≡ ltb (get_or ts k d) (get_or ts (k + 1) d)) → true ≡ rising ts
unfolding rising
rises [] h = refl
rises (t ∷ []) h = refl
rises (t ∷ (u ∷ ts)) h = rw (← h 0 0 (omega arith)) (rises (u ∷ ts) (λ k d more. simp add-one (simp add-one at (h (suc k) d (omega arith)))))

falls : (ts : List ℕ) (k : ℕ) → k + 1 < length ts → ((d : ℕ) → false ≡ ltb (get_or ts k d) (get_or ts (k + 1) d)) → false ≡ rising ts
unfolding rising
falls [] k more h = absurd (omega arith)
falls (t ∷ []) k more h = absurd (omega arith)
falls (t ∷ (u ∷ ts)) zero more h = rw (← h 0)
falls (t ∷ (u ∷ ts)) (suc k) more h =
    rw (← falls (u ∷ ts) k (omega arith) (λ d. simp add-one (simp add-one at (h d)))) (none (ltb t u))
  where
    none : (b : Bool) → false ≡ (b && false)
    none true = refl
    none false = refl

-- what std's test of each tick and the next answers
pub rising-adjacent : (ts : List ℕ) (r : Bool) → IsAllAdjacentAnswer (λ x y b. b ≡ ltb x y) ts r → r ≡ rising ts
rising-adjacent ts true h = rises ts h
rising-adjacent ts false (k, more, h) = falls ts k more h

-- what a list is
module _ (ws ts : List ℕ) (h : is_list ws ts ≡ true) where
  pub list-even : length ws ≡ length ts
  unfolding is_list
  list-even =
      let even = eqb (length ws) (length ts) in
      let few = leb (length ws) most_words in
      eqb-true (length ws) (length ts) (and_left even few (and_left (even && few) (rising ts) h))

  pub list-few : length ws ≤ most_words
  unfolding is_list
  list-few =
      let even = eqb (length ws) (length ts) in
      let few = leb (length ws) most_words in
      leb-true (length ws) most_words (and_right even few (and_left (even && few) (rising ts) h))
