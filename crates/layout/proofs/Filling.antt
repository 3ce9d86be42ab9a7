-- A template laid out byte by byte.
-- Assumes nothing.
use mathlib.Core.Path.{◌≡◌, refl, ap, ◌∙◌}
use mathlib.Core.Bool.{Bool, true, false}
use mathlib.Core.List.{List, ◌∷◌}
use Prim.Native.Nat.{ℕ, ◌+◌, ◌≤◌, ◌<◌}
use Prim.Native.Char.{code}
use native.Mathlib.Nat.{add-zero}
use native.Mathlib.Numerals.{add-one}
use native.Mathlib.Omega.{arith}
use lib.Dec.{eqb}
use lib.ListN.{length, get_or, drop, drop_of_length-le}
use lib.Seq.{drop-cons, get_or-drop}
use Rattle.layout.specs.Adds.{Adds}
use Rattle.layout.specs.declared.writer.Writer.{Writer}
use Rattle.layout.specs.Template.{is_mark, moved, piece, layout_from, layout, start}
use Rattle.layout.specs.declared.template.Cursor.{Cursor}
use Rattle.layout.proofs.Adding.{Partly, partly-first, partly-next, partly-done}

-- how far a cursor can have come after so many bytes
pub record Near (k : Cursor) (i : ℕ) : Type 0 where
  pub bars : k.bars ≤ i
  pub width : k.width ≤ i
  pub value : k.value ≤ i

near-moved : (k : Cursor) (c n v i : ℕ) → Near k i → Near (moved k c n v) (i + 1)
unfolding moved
near-moved k c n v i h =
    go (eqb c (code "|")) refl (eqb c (code "}")) refl (eqb k.bars k.chosen) refl (eqb c (code "{")) refl (is_mark c) refl (eqb n c) refl
  where
    near_same : Near k (i + 1)
    near_same = let a = h.bars in let b = h.width in let d = h.value in record { bars = omega arith; width = omega arith; value = omega arith }

    go : (p : Bool) → eqb c (code "|") ≡ p → (q : Bool) → eqb c (code "}") ≡ q → (r : Bool) → eqb k.bars k.chosen ≡ r
        → (s : Bool) → eqb c (code "{") ≡ s → (t : Bool) → is_mark c ≡ t → (u : Bool) → eqb n c ≡ u → Near (moved k c n v) (i + 1)
    go true a q b r d s e t f u g =
        let x = h.bars in let z = h.value in rw a (record { bars = omega arith; width = omega arith; value = omega arith })
    go false a true b r d s e t f u g = let z = h.value in rw (a, b) (record { bars = omega arith; width = omega arith; value = omega arith })
    go false a false b false d s e t f u g = rw (a, b, d) near_same
    go false a false b true d true e t f u g =
        let z = h.value in rw (a, b, d, e) (record { bars = omega arith; width = omega arith; value = omega arith })
    go false a false b true d false e false f u g = rw (a, b, d, e, f) near_same
    go false a false b true d false e true f true g =
        let x = h.bars in let y = h.width in let z = h.value in
        rw (a, b, d, e, f, g) (record { bars = omega arith; width = omega arith; value = omega arith })
    go false a false b true d false e true f false g =
        let x = h.bars in let z = h.value in
        rw (a, b, d, e, f, g) (record { bars = omega arith; width = omega arith; value = omega arith })

-- the template from its ith byte on is left
pub record Filling (old : Writer) (template values before : List ℕ) (new : Writer) (k : Cursor) (i : ℕ) : Type 0 where
  pub few : i ≤ length template
  pub near : Near k i
  pub part : Partly old (layout template values before) (layout_from k (drop i template) values before) new

pub filling-first : {w : Writer} {template values before : List ℕ} → Filling w template values before w start 0
unfolding layout
filling-first =
    record {
      few = omega arith;
      near = record { bars = omega arith; width = omega arith; value = omega arith };
      part = partly-first;
    }

module _ {old : Writer} {template values before : List ℕ} {new : Writer} {k : Cursor} {i : ℕ} (h : Filling old template values before new k i) where
  module _ (more : i < length template) where
    next-byte : get_or (drop (i + 1) template) 0 0 ≡ get_or template (i + 1) 0
    next-byte = get_or-drop (i + 1) template 0 0 ∙ rw (add-zero (i + 1))

    pub filling-next : {c n v b : ℕ} → c ≡ get_or template i 0 → n ≡ get_or template (i + 1) 0 → v ≡ get_or values k.value 0 → b ≡ get_or before k.value 0
        → {new' : Writer} → Adds new new' (piece k c n v b)
        → {k' : Cursor} → k' ≡ moved k c n v
        → Filling old template values before new' k' (i + 1)
    unfolding layout_from
    filling-next {c} {n} {v} {b} ec en ev eb w ek =
        let is : drop i template ≡ c ∷ drop (i + 1) template = drop-cons template i 0 more ∙ rw (ec, add-one i) in
        rw ek
        (record {
          few = omega arith;
          near = near-moved k c n v i h.near;
          part =
              partly-next h.part (ap (λ (l : List ℕ). layout_from k l values before) is ∙ rw (next-byte, ← en, ← ev, ← eb)) w;
        })

  pub filled : length template ≤ i → Adds old new (layout template values before)
  unfolding layout_from
  filled all = partly-done h.part (ap (λ (l : List ℕ). layout_from k l values before) (drop_of_length-le template all))

-- a template added with values by other names
pub adds_values : (t v w vs bs : List ℕ) → {old new : Writer} → v ≡ vs → w ≡ bs → Adds old new (layout t v w) → Adds old new (layout t vs bs)
adds_values t v w vs bs e f h = rw (← e, ← f) h
