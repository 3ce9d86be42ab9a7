-- A test that antt computes for every number below a bound, and a law that reads it at any of them.
-- Assumes nothing.
use mathlib.Core.Path.{◌≡◌, sym, subst}
use mathlib.Core.Bool.{Bool, true, ◌&&◌}
use Prim.Native.Nat.{ℕ, zero, suc, ◌<◌}
use native.Mathlib.Nat.{le_of_suc-le-suc, not-suc-le-zero}
use native.Mathlib.Decide.{ℕ_discrete}
use lib.Arith.{lt_of_le-ne}
use lib.Dec.{T}
use Rattle.words.proofs.Tables.{left, right}
use Rattle.std.proofs.lemmas.Bool.{}
use Rattle.words.proofs.Tests.{holds}

abbrev pub every : (ℕ → Bool) → ℕ → Bool
every test zero = true
every test (suc n) = test n && every test n

pub every-at : (test : ℕ → Bool) (n : ℕ) → T (every test n) → (k : ℕ) → k < n → test k ≡ true
every-at test zero t k h = absurd (not-suc-le-zero h)
every-at test (suc n) t k h = go (every-at test n (right (test n) (every test n) t) k) (ℕ_discrete k n)
  where
    go : (k < n → test k ≡ true) → Dec (k ≡ n) → test k ≡ true
    go rest (yes e) = subst (λ (m : ℕ). test m ≡ true) (sym e) (holds (test n) (left (test n) (every test n) t))
    go rest (no ne) = rest (lt_of_le-ne (le_of_suc-le-suc h) ne)
