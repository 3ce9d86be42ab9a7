-- The words of an order that fits: how many they are, and that each has sixteen bits.
-- Assumes nothing.
use mathlib.Core.Path.{◌≡◌, refl}
use mathlib.Core.Bool.{Bool, true, false, cond, not, ◌&&◌}
use mathlib.Core.List.{List, [], ◌∷◌}
use Prim.Native.Nat.{ℕ, ◌+◌, ◌-◌, ◌<◌, ◌≤◌}
use native.Mathlib.Nat.{mod-eq_of_lt}
use native.Mathlib.Omega.{arith}
use borrow.Author.Tests.{ltb-false}
use lib.Dec.{T, T_not, leb, leb→le, ltb, eqb}
use Rattle.words.proofs.Tables.{left, right}
use lib.ListN.{length}
use Rattle.words.specs.Kinds as kind
use Rattle.words.specs.Codec.{word_of}
use Rattle.orders.specs.Codes.{rows, row_of, fields_of, known, fit}
use Rattle.orders.specs.Words.{sine_register, words_of}
use Rattle.orders.specs.Encoding.{cut, words_cut}
use Rattle.orders.specs.declared.order.Order.{Order}
use Rattle.orders.proofs.Fit.{by_order, Bounds, fit-known, fit-fields, fit-bounds}

-- an order has none, one, two or four words
pub record Few (n : ℕ) : Type 0 where
  pub most : n ≤ 4
  pub three : n ≡ 3 → ⊥

few : (n : ℕ) → T (leb n 4 && not (eqb n 3)) → Few n
few n ok = record { most = leb→le n 4 (left (leb n 4) (not (eqb n 3)) ok); three = λ e. T_not (eqb n 3) (right (leb n 4) (not (eqb n 3)) ok) (rw e tt) }

pub words-few : (o : Order) → known o.code ≡ true → Few (length (words_of o))
unfolding words_of
words-few o k =
    by_order (λ p. Few (length (words_of p))) o
    (few 2 tt) (few 2 tt) (few 2 tt) (few 2 tt) (few 1 tt) (few 4 tt) (few 1 tt) (few 1 tt) (few 1 tt)
    (few 1 tt) (few 1 tt) (few 4 tt) (few 1 tt) (few 1 tt) (few 1 tt) (few 1 tt) (few 0 tt) k

-- each word has sixteen bits
abbrev Sixteen : List ℕ → Type 0
Sixteen [] = Unit {0}
Sixteen (w ∷ ws) = (w < 65536) × Sixteen ws

sixteen-cut : (ws : List ℕ) → Sixteen ws → cut ws ≡ ws
sixteen-cut [] h = refl
sixteen-cut (w ∷ ws) h = rw (mod-eq_of_lt h.0, sixteen-cut ws h.1)

sine-most : (a : ℕ) → a ≤ 65535 → sine_register a ≤ 65535
unfolding sine_register
sine-most a h = go (ltb a 32768) refl
  where
    go : (z : Bool) → ltb a 32768 ≡ z → cond (ltb a 32768) a (4096 + (65536 - a)) ≤ 65535
    go true e = rw e h
    go false e = let high = ltb-false a 32768 e in rw e (omega arith)

words-sixteen : (o : Order) → fit o ≡ true → Sixteen (words_of o)
unfolding words_of word_of rows kind.rows
words-sixteen o f =
    by_order (λ p. Bounds (row_of p.code).fields (fields_of p) → Sixteen (words_of p)) o
    (λ h. omega arith) (λ h. omega arith) (λ h. omega arith) (λ h. omega arith) (λ h. omega arith) (λ h. omega arith)
    (λ h. omega arith) (λ h. omega arith) (λ h. omega arith) (λ h. omega arith) (λ h. omega arith)
    (λ h. let s = sine-most o.a h.1 in omega arith)
    (λ h. omega arith) (λ h. omega arith) (λ h. omega arith) (λ h. omega arith) (λ h. omega arith)
    (fit-known o f) (fit-bounds o (fit-fields o f))

pub fit_cut : (o : Order) → fit o ≡ true → words_cut o ≡ words_of o
unfolding words_cut
fit_cut o f = sixteen-cut (words_of o) (words-sixteen o f)
