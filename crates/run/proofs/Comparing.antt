-- Lists compared number by number.
-- Assumes nothing.
use mathlib.Core.Path.{◌≡◌, refl, ap}
use mathlib.Core.Bool.{Bool, true, false}
use mathlib.Core.List.{List}
use Prim.Native.Nat.{ℕ}
use lib.ListN.{length}
use Rattle.std.proofs.lemmas.Slice.Eq.{bytes_eq-Decides}
use Rattle.run.specs.Compare.{same}

pub same_self : (xs : List ℕ) → same xs xs ≡ true
same_self xs = (bytes_eq-Decides xs xs).1 refl

pub same-equal : (xs ys : List ℕ) → same xs ys ≡ true → xs ≡ ys
same-equal xs ys = (bytes_eq-Decides xs ys).0

pub same-long : (xs ys : List ℕ) → (length xs ≡ length ys → ⊥) → same xs ys ≡ false
same-long xs ys h = go (same xs ys) refl
  where
    go : (z : Bool) → same xs ys ≡ z → same xs ys ≡ false
    go true e = absurd (h (ap length (same-equal xs ys e)))
    go false e = e
