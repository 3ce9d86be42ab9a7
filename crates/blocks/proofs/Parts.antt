-- A block's list of words, taken apart into readings and status words and put together again; and what a passed chain of tests says.
-- Assumes nothing.
use mathlib.Core.Path.{◌≡◌, refl, ap}
use mathlib.Core.Bool.{Bool, true, false, cond, not}
use mathlib.Core.List.{List, [], ◌∷◌, ◌++◌}
use Prim.Native.Nat.{ℕ, zero, suc, ◌+◌, ◌≤◌}
use native.Mathlib.Omega.{arith}
use borrow.Author.Tests.{eq-eqb, le-leb}
use lib.Dec.{eqb}
use lib.ListN.{length, get_or, take, drop, length-append, take-append-drop, drop_of_length-le}
use lib.Seq.{get_or-append-add, drop-cons}
use Rattle.std.specs.Prelude.{Result, Ok, Err}
use Rattle.std.specs.Result.{result_map_both}
use Rattle.words.specs.Kinds as kind
use Rattle.words.specs.Kinds.{least, greatest, allowed}
use Rattle.blocks.specs.declared.refusal.Refusal.{Refusal}

-- where a block's length is tested and then its words after the n readings are judged, the status words are judged
module _ {A : Type 0} (refused : A) (judged : (ℕ → ℕ) → A) (n : ℕ) (readings status : List ℕ) (sized : length readings ≡ n) where
  word_at : (k : ℕ) → get_or (readings ++ status) (n + k) 0 ≡ get_or status k 0
  word_at k = rw (← sized) (get_or-append-add readings status k 0)

  pub status-judged :
      cond (not (eqb (length (readings ++ status)) (n + length status))) refused (judged (λ k. get_or (readings ++ status) (n + k) 0))
      ≡ judged (λ k. get_or status k 0)
  status-judged =
      rw (eq-eqb (length (readings ++ status)) (n + length status) (omega (arith, length-append readings status)))
      (λ i. judged (λ k. word_at k i))

-- k words from the ith on
unfoldable pub words : ℕ → ℕ → List ℕ → List ℕ
words zero i ws = []
words (suc k) i ws = get_or ws i 0 ∷ words k (suc i) ws

dropped : (k i : ℕ) (ws : List ℕ) → length ws ≡ i + k → drop i ws ≡ words k i ws
unfolding words
dropped zero i ws e = drop_of_length-le ws {i = i} (omega arith)
dropped (suc k) i ws e = rw (drop-cons ws i 0 (omega arith)) (ap (λ (l : List ℕ). get_or ws i 0 ∷ l) (dropped k (suc i) ws (omega arith)))

pub put-together : (n k : ℕ) (ws : List ℕ) → length ws ≡ n + k → take n ws ++ words k n ws ≡ ws
put-together n k ws e = rw (← dropped k n ws e) (take-append-drop n ws)

-- an answer that says something passed each test
module _ {M : Type 0} where
  pub held : (t : Bool) (r : Refusal) (a : Result M Refusal) (m : M) → cond (not t) (Err r) a ≡ Ok m → t ≡ true
  held true r a m e = refl
  held false r a m e = absurd cc

  pub later : (t : Bool) (r : Refusal) (a : Result M Refusal) (m : M) → cond (not t) (Err r) a ≡ Ok m → a ≡ Ok m
  later true r a m e = e
  later false r a m e = absurd cc

  pub said_same : (n m : M) → ◌≡◌ {A = Result M Refusal} (Ok n) (Ok m) → n ≡ m
  said_same n m e = cc

-- a block that was read is made of what its status words say
pub made_of : {M B : Type 0} (block : M → B) (a : Result M Refusal) (b : B) → result_map_both block (λ (r : Refusal). r) a ≡ Ok b
    → (m : M) × (a ≡ Ok m) × (block m ≡ b)
made_of block (Ok m) b e = (m, refl, cc)
made_of block (Err r) b e = absurd cc

-- a value from the least to the greatest of a kind is allowed, unless the kind is COVER
pub within-allowed : (k v : ℕ) → eqb k kind.cover ≡ false → least k ≤ v → v ≤ greatest k → allowed k v ≡ true
unfolding allowed
within-allowed k v e low high = rw (le-leb (least k) v low, le-leb v (greatest k) high, e)
