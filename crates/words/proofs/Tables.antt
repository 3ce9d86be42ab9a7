-- Rules of a table and of a `match` on a number: each is what antt computes over all entries, and a law that reads it at any entry.
-- Assumes nothing.
use mathlib.Core.Path.{◌≡◌, refl, sym, subst}
use mathlib.Core.Bool.{Bool, true, false, cond, ◌&&◌}
use mathlib.Core.List.{List, [], ◌∷◌}
use Prim.Native.Nat.{ℕ, zero, suc, ◌<◌}
use native.Mathlib.Nat.{le_of_suc-le-suc, not-suc-le-zero}
use native.Mathlib.Decide.{ℕ_discrete}
use borrow.Author.Tests.{eqb-true}
use lib.Arith.{lt_of_le-ne}
use lib.Dec.{T, eqb, eqb→eq, ltb, ltb→lt}
use lib.ListN.{get_or}

pub left : (a b : Bool) → T (a && b) → T a
left true b t = tt
left false b t = t

pub right : (a b : Bool) → T (a && b) → T b
right true b t = t
right false b t = absurd t

-- two functions agree at every number below n
abbrev pub agree : (ℕ → ℕ) → (ℕ → ℕ) → ℕ → Bool
agree f g zero = true
agree f g (suc n) = eqb (f n) (g n) && agree f g n

pub agree_at : (f g : ℕ → ℕ) (n : ℕ) → T (agree f g n) → (k : ℕ) → k < n → f k ≡ g k
agree_at f g zero t k h = absurd (not-suc-le-zero h)
agree_at f g (suc n) t k h = go (agree_at f g n (right (eqb (f n) (g n)) (agree f g n) t) k) (ℕ_discrete k n)
  where
    go : (k < n → f k ≡ g k) → Dec (k ≡ n) → f k ≡ g k
    go rest (yes e) =
        subst (λ (m : ℕ). f m ≡ g m) (sym e) (eqb→eq (f n) (g n) (left (eqb (f n) (g n)) (agree f g n) t))
    go rest (no ne) = rest (lt_of_le-ne (le_of_suc-le-suc h) ne)

-- a table holds the function's values at its first n places
abbrev pub tabulates : List ℕ → (ℕ → ℕ) → ℕ → Bool
tabulates l g n = agree (λ k. get_or l k 0) g n

pub tabulates-at : (l : List ℕ) (g : ℕ → ℕ) (n : ℕ) → T (tabulates l g n) → (k : ℕ) → k < n → get_or l k 0 ≡ g k
tabulates-at l g n t k h = agree_at (λ k. get_or l k 0) g n t k h

-- every entry is below m
abbrev pub below : ℕ → List ℕ → Bool
below m [] = ltb 0 m
below m (x ∷ xs) = ltb x m && below m xs

pub below_at : (m : ℕ) (l : List ℕ) → T (below m l) → (k : ℕ) → get_or l k 0 < m
below_at m [] t k = ltb→lt 0 m t
below_at m (x ∷ xs) t zero = ltb→lt x m (left (ltb x m) (below m xs) t)
below_at m (x ∷ xs) t (suc k) = below_at m xs (right (ltb x m) (below m xs) t) k

-- how a `match` with an arm for each number below n at which f is not v says that x has none of these arms
abbrev pub Others : (ℕ → ℕ) → ℕ → ℕ → ℕ → Type 0
Others f v x zero = Unit {0}
Others f v x (suc n) = cond (eqb (f n) v) (Others f v x n) (Others f v x n × (x ≡ n → ⊥))

pub others-at : (f : ℕ → ℕ) (v x n : ℕ) → Others f v x n → x < n → v ≡ f x
others-at f v x zero o h = absurd (not-suc-le-zero h)
others-at f v x (suc n) o h = go (others-at f v x n) (eqb (f n) v) refl o (ℕ_discrete x n)
  where
    go : (Others f v x n → x < n → v ≡ f x) → (b : Bool) → eqb (f n) v ≡ b → cond b (Others f v x n) (Others f v x n × (x ≡ n → ⊥))
        → Dec (x ≡ n) → v ≡ f x
    go rest true p o (yes e) = rw (e, eqb-true (f n) v p)
    go rest false p o (yes e) = absurd (o.1 e)
    go rest true p o (no ne) = rest o (lt_of_le-ne (le_of_suc-le-suc h) ne)
    go rest false p o (no ne) = rest o.0 (lt_of_le-ne (le_of_suc-le-suc h) ne)
