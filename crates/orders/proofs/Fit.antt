-- What holds of every order by its code, and what an order whose fields fit says of them.
-- Assumes nothing.
use mathlib.Core.Path.{◌≡◌, subst}
use mathlib.Core.Bool.{true, false≢true}
use mathlib.Core.List.{List, [], ◌∷◌}
use Prim.Native.Nat.{ℕ, zero, suc, ◌<◌, ◌≤◌}
use native.Mathlib.Decide.{ℕ_discrete}
use native.Mathlib.Omega.{arith}
use borrow.Author.Tests.{leb-true}
use lib.Arith.{lt_of_le-ne}
use lib.Dec.{leb}
use Rattle.words.proofs.Tests.{and_left, and_right}
use Rattle.orders.specs.Codes.{Range, row_of, holds, within, fields_of, related, recoded, fields_fit, known, fit}
use Rattle.orders.specs.declared.order.Order.{Order}

-- what holds at n, and from there on, holds of every number that is at least n
from : (P : ℕ → Type 0) (c n : ℕ) → P n → (n < c → P c) → n ≤ c → P c
from P c n here later h = go (ℕ_discrete n c)
  where
    go : Dec (n ≡ c) → P c
    go (yes e) = subst P e here
    go (no ne) = later (lt_of_le-ne h ne)

-- how `match` says that a code is none of those up to n
abbrev pub Apart : ℕ → ℕ → Type 0
Apart c zero = Unit {0}
Apart c (suc n) = Apart c n × (c ≡ suc n → ⊥)

-- what holds of each of the codes holds of every known one
module _ (P : ℕ → Type 0)
    (p1 : P 1) (p2 : P 2) (p3 : P 3) (p4 : P 4) (p5 : P 5) (p6 : P 6)
    (p7 : P 7) (p8 : P 8) (p9 : P 9) (p10 : P 10) (p11 : P 11) (p12 : P 12)
    (p13 : P 13) (p14 : P 14) (p15 : P 15) (p16 : P 16) (p17 : P 17) where
  pub by_code : (c : ℕ) → known c ≡ true → P c
  unfolding known
  by_code c k =
      let most = leb-true c 17 (and_right (leb 1 c) (leb c 17) k) in
      from P c 1 p1 (from P c 2 p2 (from P c 3 p3 (from P c 4 p4 (from P c 5 p5 (from P c 6 p6 (from P c 7 p7 (from P c 8 p8
      (from P c 9 p9 (from P c 10 p10 (from P c 11 p11 (from P c 12 p12 (from P c 13 p13 (from P c 14 p14 (from P c 15 p15
      (from P c 16 p16 (from P c 17 p17 (λ (past : 17 < c). absurd (omega arith))))))))))))))))))
      (leb-true 1 c (and_left (leb 1 c) (leb c 17) k))

-- what holds of an order at each of the codes holds of the order
module _ (P : Order → Type 0) (o : Order)
    (p1 : P (recoded 1 o)) (p2 : P (recoded 2 o)) (p3 : P (recoded 3 o)) (p4 : P (recoded 4 o)) (p5 : P (recoded 5 o))
    (p6 : P (recoded 6 o)) (p7 : P (recoded 7 o)) (p8 : P (recoded 8 o)) (p9 : P (recoded 9 o)) (p10 : P (recoded 10 o))
    (p11 : P (recoded 11 o)) (p12 : P (recoded 12 o)) (p13 : P (recoded 13 o)) (p14 : P (recoded 14 o)) (p15 : P (recoded 15 o))
    (p16 : P (recoded 16 o)) (p17 : P (recoded 17 o)) where
  pub by_order : known o.code ≡ true → P o
  by_order k = by_code (λ n. P (recoded n o)) p1 p2 p3 p4 p5 p6 p7 p8 p9 p10 p11 p12 p13 p14 p15 p16 p17 o.code k

-- each value is between the bounds of its range
abbrev pub Bounds : List Range → List ℕ → Type 0
Bounds [] vs = Unit {0}
Bounds (r ∷ rs) [] = ⊥
Bounds (r ∷ rs) (v ∷ vs) = (r.least ≤ v) × (v ≤ r.greatest) × Bounds rs vs

within-bounds : (rs : List Range) (vs : List ℕ) → within rs vs ≡ true → Bounds rs vs
unfolding within
within-bounds [] vs e = tt
within-bounds (r ∷ rs) [] e = false≢true e
within-bounds (r ∷ rs) (v ∷ vs) e =
    let here = and_left (holds r v) (within rs vs) e in (
      leb-true r.least v (and_left (leb r.least v) (leb v r.greatest) here),
      leb-true v r.greatest (and_right (leb r.least v) (leb v r.greatest) here),
      within-bounds rs vs (and_right (holds r v) (within rs vs) e),
    )

-- what an order that fits says
module _ (o : Order) (f : fit o ≡ true) where
  pub fit-known : known o.code ≡ true
  unfolding fit
  fit-known = and_left (known o.code) (fields_fit o) f

  pub fit-fields : fields_fit o ≡ true
  unfolding fit
  fit-fields = and_right (known o.code) (fields_fit o) f

-- what an order whose fields fit says of them; at a code it computes to the bounds of the code's fields
module _ (o : Order) (fits : fields_fit o ≡ true) where
  pub fit-bounds : Bounds (row_of o.code).fields (fields_of o)
  unfolding fields_fit
  fit-bounds =
      within-bounds (row_of o.code).fields (fields_of o) (and_left (within (row_of o.code).fields (fields_of o)) (related o) fits)
