-- Document 02, request P6: a list that has the entries of two lists, each list's in their own order, and nothing else.
-- Assumes nothing.
use Rattle.std.specs.Prelude.{ℕ, List, [], ◌∷◌}

pub data Interleaved : List ℕ → List ℕ → List ℕ → Type 0 where
  nothing : Interleaved [] [] []
  from-ccd : (x : ℕ) {xs ys zs : List ℕ} → Interleaved xs ys zs → Interleaved (x ∷ xs) ys (x ∷ zs)
  from-infrared : (y : ℕ) {xs ys zs : List ℕ} → Interleaved xs ys zs → Interleaved xs (y ∷ ys) (y ∷ zs)
