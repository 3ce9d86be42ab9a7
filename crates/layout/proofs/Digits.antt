-- The decimal text of a number: digit by digit, and how long it is.
-- Assumes nothing.
use mathlib.Core.Path.{◌≡◌, refl, sym, ap, ◌∙◌}
use mathlib.Core.Bool.{Bool, true, false}
use mathlib.Core.List.{List, [], ◌∷◌, ◌++◌}
use Prim.Native.Nat.{ℕ, zero, suc, ◌+◌, ◌/◌, ◌%◌, ◌^◌, ◌≤◌, ◌<◌}
use native.Mathlib.Nat.{pow-succ'}
use native.Mathlib.Omega.{arith}
use borrow.Author.Tests.{lt-ltb, le-ltb, ltb-true, ltb-false}
use lib.Dec.{ltb}
use lib.ListN.{length, length-append}
use Rattle.layout.specs.Numbers.{digit, decimal_within, decimal_of}

-- one digit
within-one : (k n : ℕ) → n < 10 → decimal_within k n ≡ digit n ∷ []
unfolding decimal_within
within-one zero n h = refl
within-one (suc k) n h = rw (lt-ltb n 10 h)

-- one digit after the others
within_more : (k n : ℕ) → 10 ≤ n → decimal_within (suc k) n ≡ decimal_within k (n / 10) ++ (digit (n % 10) ∷ [])
unfolding decimal_within
within_more k n h = rw (le-ltb n 10 h)

-- any number of digits that is enough gives the same
within-enough : (j k n : ℕ) → n ≤ j → n ≤ k → decimal_within j n ≡ decimal_within k n
within-enough zero k n hj hk = within-one zero n (omega arith) ∙ sym (within-one k n (omega arith))
within-enough (suc j) zero n hj hk = within-one (suc j) n (omega arith) ∙ sym (within-one zero n (omega arith))
within-enough (suc j) (suc k) n hj hk = go (ltb n 10) refl (within-enough j k (n / 10))
  where
    go : (b : Bool) → ltb n 10 ≡ b → (n / 10 ≤ j → n / 10 ≤ k → decimal_within j (n / 10) ≡ decimal_within k (n / 10))
        → decimal_within (suc j) n ≡ decimal_within (suc k) n
    go true p rest = within-one (suc j) n (ltb-true n 10 p) ∙ sym (within-one (suc k) n (ltb-true n 10 p))
    go false p rest =
        let h = ltb-false n 10 p in
        within_more j n h
        ∙ ap (λ (l : List ℕ). l ++ (digit (n % 10) ∷ [])) (rest (omega arith) (omega arith))
        ∙ sym (within_more k n h)

pub decimal-one : (n : ℕ) → n < 10 → decimal_of n ≡ digit n ∷ []
unfolding decimal_of
decimal-one n h = within-one n n h

pub decimal-more : (n : ℕ) → 10 ≤ n → decimal_of n ≡ decimal_of (n / 10) ++ (digit (n % 10) ∷ [])
unfolding decimal_of
decimal-more n h =
    within-enough n (suc n) n (omega arith) (omega arith)
    ∙ within_more n n h
    ∙ ap (λ (l : List ℕ). l ++ (digit (n % 10) ∷ [])) (within-enough n (n / 10) (n / 10) (omega arith) (omega arith))

pub longer : (n : ℕ) → 10 ≤ n → length (decimal_of n) ≡ length (decimal_of (n / 10)) + 1
longer n h = ap length (decimal-more n h) ∙ length-append (decimal_of (n / 10)) (digit (n % 10) ∷ [])

-- a number below 10 ^ (k + 1) has at most k + 1 digits
pub decimal-long : (k n : ℕ) → n < 10 ^ suc k → length (decimal_of n) ≤ suc k
decimal-long zero n h = rw (decimal-one n h) (omega arith)
decimal-long (suc k) n h = go (ltb n 10) refl (decimal-long k (n / 10) (let p = pow-succ' 10 (suc k) in omega arith))
  where
    go : (b : Bool) → ltb n 10 ≡ b → length (decimal_of (n / 10)) ≤ suc k → length (decimal_of n) ≤ suc (suc k)
    go true p rest = rw (decimal-one n (ltb-true n 10 p)) (omega arith)
    go false p rest = rw (longer n (ltb-false n 10 p)) (omega arith)
