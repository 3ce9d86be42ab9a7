-- The text of a template is no longer than the template: a field is as wide as its marks are many, and of alternatives one stands there.
-- Assumes nothing.
use mathlib.Core.Path.{◌≡◌, refl}
use mathlib.Core.Bool.{Bool, true, false, cond, false≢true}
use mathlib.Core.List.{List, [], ◌∷◌, ◌++◌}
use Prim.Native.Nat.{ℕ, ◌+◌, ◌-◌, ◌≤◌}
use Prim.Native.Char.{code}
use native.Mathlib.Omega.{arith}
use borrow.Author.Tests.{leb-true, eqb-true}
use lib.Dec.{leb, eqb}
use lib.ListN.{length, get_or, replicate, length-append, length-replicate}
use Rattle.layout.specs.Fields.{plain, value_text, field_text}
use Rattle.layout.specs.Template.{is_mark, moved, piece, layout_from, layout, start}
use Rattle.layout.specs.declared.template.Cursor.{Cursor}

field-few : (mark width v : ℕ) → length (field_text mark width v) ≤ width
unfolding field_text
field-few mark width v = go (leb (length (value_text mark v)) width) refl (eqb mark plain)
  where
    go : (x : Bool) → leb (length (value_text mark v)) width ≡ x → (y : Bool)
        → length (cond x (cond y (value_text mark v) (replicate (width - length (value_text mark v)) (code " ") ++ value_text mark v)) (replicate width (code "#"))) ≤ width
    go true e true = leb-true (length (value_text mark v)) width e
    go true e false =
        let few = leb-true (length (value_text mark v)) width e in
        omega (
          arith,
          length-append (replicate (width - length (value_text mark v)) (code " ")) (value_text mark v),
          length-replicate {A = ℕ} (width - length (value_text mark v)) (code " "),
        )
    go false e y = omega (arith, length-replicate {A = ℕ} width (code "#"))

no-mark : (c : ℕ) → eqb c (code "^") ≡ true → is_mark c ≡ true → ⊥
unfolding is_mark
no-mark c e i = false≢true (rw (eqb-true c (code "^") e) at i)

-- what a byte stands for, and the marks that are passed then, are at most one more than the marks that were passed
pub step-few : (k : Cursor) (c n v b : ℕ) → length (piece k c n v b) + (moved k c n v).width ≤ k.width + 1
unfolding piece moved
step-few k c n v b =
    go (eqb c (code "|")) refl (eqb c (code "}")) refl (eqb k.bars k.chosen) refl (eqb c (code "{")) refl (eqb c (code "^")) refl (is_mark c) refl
    (eqb n c)
    refl
  where
    go : (p : Bool) → eqb c (code "|") ≡ p → (q : Bool) → eqb c (code "}") ≡ q → (r : Bool) → eqb k.bars k.chosen ≡ r
        → (s : Bool) → eqb c (code "{") ≡ s → (h : Bool) → eqb c (code "^") ≡ h → (t : Bool) → is_mark c ≡ t → (u : Bool) → eqb n c ≡ u
        → length (piece k c n v b) + (moved k c n v).width ≤ k.width + 1
    go true a q e r d s f h g t i u j = rw a (omega arith)
    go false a true e r d s f h g t i u j = rw (a, e) (omega arith)
    go false a false e false d true f h g t i u j = rw (a, e, d, f) (omega arith)
    go false a false e false d false f h g t i u j = rw (a, e, d, f) (omega arith)
    go false a false e true d true f h g t i u j = rw (a, e, d, f) (omega arith)
    go false a false e true d false f true g true i u j = absurd (no-mark c g i)
    go false a false e true d false f true g false i u j = rw (a, e, d, f, g, i) (omega arith)
    go false a false e true d false f false g false i u j = rw (a, e, d, f, g, i) (omega arith)
    go false a false e true d false f false g true i true j = rw (a, e, d, f, g, i, j) (omega arith)
    go false a false e true d false f false g true i false j =
        rw (a, e, d, f, g, i, j) (omega (arith, field-few c (k.width + 1) v))

pub from-few : (k : Cursor) (t vs bs : List ℕ) → length (layout_from k t vs bs) ≤ k.width + length t
unfolding layout_from
from-few k [] vs bs = omega arith
from-few k (c ∷ cs) vs bs =
    let n = get_or cs 0 0 in
    let v = get_or vs k.value 0 in
    let b = get_or bs k.value 0 in
    omega (
      arith,
      length-append (piece k c n v b) (layout_from (moved k c n v) cs vs bs),
      step-few k c n v b,
      from-few (moved k c n v) cs vs bs,
    )

pub layout-few : (t vs bs : List ℕ) → length (layout t vs bs) ≤ length t
unfolding layout
layout-few t vs bs = omega (arith, from-few start t vs bs)
