-- Laws of counting: in parts, row by row, and how large a count can be.
-- Assumes nothing.
use mathlib.Core.Path.{◌≡◌}
use mathlib.Core.Bool.{Bool, true, false, cond}
use Prim.Native.Nat.{ℕ, zero, suc, ◌+◌, ◌*◌, ◌≤◌}
use native.Mathlib.Nat.{add-zero, add-suc, add_assoc, suc-mul, zero-mul}
use native.Mathlib.Omega.{arith}
use Rattle.pixels.specs.Map.{how_many, sum_below}

pub many-parts : (test : ℕ → Bool) (a b : ℕ) → how_many test (a + b) ≡ how_many test a + how_many (λ k. test (a + k)) b
unfolding how_many
many-parts test a zero = rw (add-zero a, add-zero (how_many test a))
many-parts test a (suc b) =
    rw (add-suc a b, many-parts test a b) (add_assoc (how_many test a) (how_many (λ k. test (a + k)) b) (cond (test (a + b)) 1 0))

pub many-rows : (test : ℕ → Bool) (c n : ℕ) → how_many test (n * c) ≡ sum_below (λ r. how_many (λ k. test (r * c + k)) c) n
unfolding how_many sum_below
many-rows test c zero = rw (zero-mul c)
many-rows test c (suc n) = rw (suc-mul n c, many-parts test (n * c) c, many-rows test c n)

pub many-le : (test : ℕ → Bool) (n : ℕ) → how_many test n ≤ n
unfolding how_many
many-le test zero = omega arith
many-le test (suc n) = go (test n) (many-le test n)
  where
    go : (b : Bool) → how_many test n ≤ n → how_many test n + cond b 1 0 ≤ suc n
    go true h = omega arith
    go false h = omega arith
