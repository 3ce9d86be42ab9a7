-- A line compared with what is printed, byte by byte.
-- Assumes nothing.
use mathlib.Core.Path.{◌≡◌, refl, ap}
use mathlib.Core.Bool.{Bool, true, false}
use mathlib.Core.List.{List, [], ◌∷◌}
use Prim.Native.Nat.{ℕ, suc}
use native.Mathlib.Omega.{arith}
use lib.ListN.{length}
use Rattle.words.proofs.Tests.{and_right}
use Rattle.std.specs.List.{list_all, zip}
use Rattle.import.specs.Line.{stands_for, is_text}

pub text-long : (a b : List ℕ) → is_text a b ≡ true → length a ≡ length b
unfolding is_text
text-long [] [] e = refl
text-long [] (d ∷ ds) e = let z : ◌≡◌ {A = ℕ} 0 1 = cc in omega arith
text-long (c ∷ cs) [] e = let z : ◌≡◌ {A = ℕ} 0 1 = cc in omega arith
text-long (c ∷ cs) (d ∷ ds) e = ap suc (text-long cs ds (and_right (stands_for c d) (is_text cs ds) e))

pub text-apart : (a b : List ℕ) → (length a ≡ length b → ⊥) → false ≡ is_text a b
text-apart a b h = go (is_text a b) refl
  where
    go : (z : Bool) → is_text a b ≡ z → false ≡ z
    go true e = absurd (h (text-long a b e))
    go false e = refl

-- as many bytes, each of which stands for the one that is printed there
pub text-zipped : (a b : List ℕ) → length a ≡ length b → list_all (λ (p : ℕ × ℕ). stands_for p.0 p.1) (zip a b) ≡ is_text a b
unfolding is_text
text-zipped [] [] e = refl
text-zipped [] (d ∷ ds) e = absurd (omega arith)
text-zipped (c ∷ cs) [] e = absurd (omega arith)
text-zipped (c ∷ cs) (d ∷ ds) e = rw (text-zipped cs ds (omega arith))
