-- An order that sends no words: a wait, and what is no code.
-- Assumes nothing.
use mathlib.Core.Path.{◌≡◌}
use mathlib.Core.Bool.{false, ◌&&◌}
use mathlib.Core.List.{[]}
use Prim.Native.Nat.{ℕ, zero, suc, ◌≤◌}
use native.Mathlib.Nat.{le_of_suc-le-suc}
use native.Mathlib.Decide.{ℕ_discrete}
use native.Mathlib.Omega.{arith}
use borrow.Author.Tests.{ne_eqb}
use lib.Arith.{lt_of_le-ne}
use lib.Dec.{T, leb, leb→le, eqb}
use Rattle.words.proofs.Tables.{left, right}
use Rattle.orders.specs.Words.{words_of}
use Rattle.orders.specs.declared.order.Order.{Order}
use Rattle.orders.proofs.Fit.{Apart}

-- a code that is none of those up to n
pub others-not : (c n : ℕ) → Apart c n → (k : ℕ) → 1 ≤ k → k ≤ n → eqb c k ≡ false
others-not c zero h k low high = absurd (omega arith)
others-not c (suc n) h k low high = go (others-not c n h.0 k low) (ℕ_discrete k (suc n))
  where
    go : (k ≤ n → eqb c k ≡ false) → Dec (k ≡ suc n) → eqb c k ≡ false
    go rest (yes e) = rw e (ne_eqb c (suc n) h.1)
    go rest (no ne) = rest (le_of_suc-le-suc (lt_of_le-ne high ne))

-- an order whose code is none that sends words has none
pub no_words : (o : Order) → Apart o.code 16 → words_of o ≡ []
unfolding words_of
no_words o h =
    rw (
      out 1 tt,
      out 2 tt,
      out 3 tt,
      out 4 tt,
      out 5 tt,
      out 6 tt,
      out 7 tt,
      out 8 tt,
      out 9 tt,
      out 10 tt,
      out 11 tt,
      out 12 tt,
      out 13 tt,
      out 14 tt,
      out 15 tt,
      out 16 tt,
    )
  where
    out : (k : ℕ) → T (leb 1 k && leb k 16) → eqb o.code k ≡ false
    out k ok = others-not o.code 16 h k (leb→le 1 k (left (leb 1 k) (leb k 16) ok)) (leb→le k 16 (right (leb 1 k) (leb k 16) ok))
