-- The text of a template is no longer than the template with only the longest alternative of each group, and without braces and bars.
-- Assumes nothing.
use mathlib.Core.Path.{◌≡◌, refl, sym, ◌∙◌}
use mathlib.Core.Bool.{Bool, true, false, cond}
use mathlib.Core.List.{List, [], ◌∷◌}
use Prim.Native.Nat.{ℕ, ◌+◌, ◌<◌, ◌≤◌, max}
use Prim.Native.Char.{code}
use native.Mathlib.Decide.{ℕ_discrete}
use native.Mathlib.Omega.{arith}
use borrow.Author.Tests.{eq-eqb, ne_eqb}
use lib.Dec.{eqb}
use lib.ListN.{length, get_or, length-append}
use Rattle.layout.specs.Template.{is_mark, moved, piece, layout_from, layout, start}
use Rattle.layout.specs.declared.template.Cursor.{Cursor}
use Rattle.layout.proofs.Widths.{step-few, from-few}

-- what a byte of a template is: what begins a group, parts its alternatives and ends it, or any other
pub data Sort : Type 0 where
  begins : Sort
  parts : Sort
  ends : Sort
  other : Sort

abbrev pub sort_of : ℕ → Sort
sort_of c = cond (eqb c (code "|")) parts (cond (eqb c (code "}")) ends (cond (eqb c (code "{")) begins other))

-- outside of groups; or in one, with the bytes of the longest alternative before, and those of this one so far
pub data Place : Type 0 where
  outside : Place
  inside : ℕ → ℕ → Place

-- the bytes from a place on, of each group those of its longest alternative; where a group begins in another, or a bar stands in none, all
-- that follow
unfoldable pub most_from : Place → List ℕ → ℕ
most_from outside [] = 0
most_from outside (c ∷ cs) =
    elim (sort_of c) [
      | begins ↦ most_from (inside 0 0) cs
      | parts ↦ length cs
      | ends ↦ most_from outside cs
      | other ↦ most_from outside cs + 1
    ]
most_from (inside best now) [] = max best now
most_from (inside best now) (c ∷ cs) =
    elim (sort_of c) [
      | begins ↦ max best now + length cs
      | parts ↦ most_from (inside (max best now) 0) cs
      | ends ↦ max best now + most_from outside cs
      | other ↦ most_from (inside best (now + 1)) cs
    ]

abbrev pub most_of : List ℕ → ℕ
most_of t = most_from outside t

-- the cursor in a group: before the chosen alternative, in it or past it, with what the group has put out so far and the marks that are
-- passed
data Within (best now : ℕ) (k : Cursor) (done : ℕ) : Type 0 where
  before : k.bars < k.chosen → done + k.width ≤ 0 → Within best now k done
  reached : k.bars ≡ k.chosen → done + k.width ≤ now → Within best now k done
  past : k.chosen < k.bars → done + k.width ≤ best → Within best now k done

abbrev At : Place → Cursor → ℕ → Type 0
At outside k done = k.bars ≡ k.chosen
At (inside best now) k done = Within best now k done

-- what is put out before the place's own count begins
abbrev spare : Place → Cursor → ℕ → ℕ
spare outside k done = done + k.width
spare (inside best now) k done = 0

within-most : (best now : ℕ) (k : Cursor) (done : ℕ) → Within best now k done → done + k.width ≤ max best now
within-most best now k done (before p q) = omega arith
within-most best now k done (reached p q) = omega arith
within-most best now k done (past p q) = omega arith

-- the cursor after a bar
abbrev barred : Cursor → Cursor
barred k = record { chosen = k.chosen; bars = k.bars + 1; width = 0; value = k.value }

within-barred : (best now : ℕ) (k : Cursor) (done : ℕ) → Within best now k done → Within (max best now) 0 (barred k) done
within-barred best now k done (before p q) = go (ℕ_discrete (k.bars + 1) k.chosen)
  where
    go : Dec (k.bars + 1 ≡ k.chosen) → Within (max best now) 0 (barred k) done
    go (yes e) = reached e (omega arith)
    go (no e) = before (omega arith) (omega arith)
within-barred best now k done (reached p q) = past (omega arith) (omega arith)
within-barred best now k done (past p q) = past (omega arith) (omega arith)

-- the cursor in a group that begins
abbrev entered : Cursor → ℕ → Cursor
entered k v = record { chosen = v; bars = 0; width = 0; value = k.value + 1 }

within-entered : (k : Cursor) (v : ℕ) → Within 0 0 (entered k v) 0
within-entered k v = go (ℕ_discrete v 0)
  where
    go : Dec (v ≡ 0) → Within 0 0 (entered k v) 0
    go (yes e) = reached (omega arith) (omega arith)
    go (no e) = before (omega arith) (omega arith)

-- the cursor after a group
abbrev left : Cursor → Cursor
left k = record { chosen = 0; bars = 0; width = 0; value = k.value }

-- braces and bars put nothing out
module _ (k : Cursor) (c n v b : ℕ) where
  module _ (bar : eqb c (code "|") ≡ true) where
    bar-piece : piece k c n v b ≡ []
    unfolding piece
    bar-piece = rw bar

    bar-moved : moved k c n v ≡ barred k
    unfolding moved
    bar-moved = rw bar

  module _ (bar : eqb c (code "|") ≡ false) (end : eqb c (code "}") ≡ true) where
    end-piece : piece k c n v b ≡ []
    unfolding piece
    end-piece = rw (bar, end)

    end_moved : moved k c n v ≡ left k
    unfolding moved
    end_moved = rw (bar, end)

  module _ (bar : eqb c (code "|") ≡ false) (end : eqb c (code "}") ≡ false) (begin : eqb c (code "{") ≡ true) where
    begin-piece : piece k c n v b ≡ []
    unfolding piece
    begin-piece = rw (bar, end, begin)

    begin-moved : k.bars ≡ k.chosen → moved k c n v ≡ entered k v
    unfolding moved
    begin-moved e = rw (bar, end, begin, eq-eqb k.bars k.chosen e)

    begin-width : (moved k c n v).width ≤ k.width
    unfolding moved
    begin-width = rw (bar, end, begin) (go (eqb k.bars k.chosen))
      where
        go : (x : Bool) → (cond x (entered k v) k).width ≤ k.width
        go true = omega arith
        go false = omega arith

-- a byte that is no brace and no bar
module _ (k : Cursor) (c n v b : ℕ) (bar : eqb c (code "|") ≡ false) (end : eqb c (code "}") ≡ false) (begin : eqb c (code "{") ≡ false) where
  -- leaves the cursor in its alternative
  abbrev Stays : Cursor → Type 0
  Stays m = (m.bars ≡ k.bars) × (m.chosen ≡ k.chosen)

  kept : Stays (moved k c n v)
  unfolding moved
  kept = rw (bar, end, begin) (go (eqb k.bars k.chosen) (is_mark c) (eqb n c))
    where
      go : (x y z : Bool)
          → Stays
          (cond x
          (cond y
          (cond z
          (record { chosen = k.chosen; bars = k.bars; width = k.width + 1; value = k.value })
          (record { chosen = k.chosen; bars = k.bars; width = 0; value = k.value + 1 }))
          k)
          k)
      go true true true = (refl, refl)
      go true true false = (refl, refl)
      go true false z = (refl, refl)
      go false y z = (refl, refl)

  -- and puts nothing out in one that is not chosen
  hidden-moved : eqb k.bars k.chosen ≡ false → moved k c n v ≡ k
  unfolding moved
  hidden-moved e = rw (bar, end, begin, e)

  hidden-piece : eqb k.bars k.chosen ≡ false → piece k c n v b ≡ []
  unfolding piece
  hidden-piece e = rw (bar, end, begin, e)

  within-next : (best now done : ℕ) → Within best now k done → Within best (now + 1) (moved k c n v) (done + length (piece k c n v b))
  within-next best now done (before p q) =
      let e = ne_eqb k.bars k.chosen (omega arith) in
      rw (hidden-moved e, hidden-piece e) (before p (omega arith))
  within-next best now done (reached p q) = reached (kept.0 ∙ p ∙ sym kept.1) (omega (arith, step-few k c n v b))
  within-next best now done (past p q) =
      let e = ne_eqb k.bars k.chosen (omega arith) in
      rw (hidden-moved e, hidden-piece e) (past p (omega arith))

module _ (vs bs : List ℕ) where
  abbrev Most : List ℕ → Type 0
  Most t = (p : Place) (k : Cursor) (done : ℕ) → At p k done → done + length (layout_from k t vs bs) ≤ spare p k done + most_from p t

  most-none : Most []
  unfolding layout_from most_from
  most-none outside k done h = omega arith
  most-none (inside best now) k done h = omega (arith, within-most best now k done h)

  -- a byte at a place, and what follows it
  module _ (c : ℕ) (cs : List ℕ) (rest : Most cs) (k : Cursor) (done : ℕ) where
    abbrev n : ℕ
    n = get_or cs 0 0

    abbrev v : ℕ
    v = get_or vs k.value 0

    abbrev b : ℕ
    b = get_or bs k.value 0

    long : length (layout_from k (c ∷ cs) vs bs) ≡ length (piece k c n v b) + length (layout_from (moved k c n v) cs vs bs)
    unfolding layout_from
    long = length-append (piece k c n v b) (layout_from (moved k c n v) cs vs bs)

    next-outside : k.bars ≡ k.chosen → done + length (layout_from k (c ∷ cs) vs bs) ≤ done + k.width + most_from outside (c ∷ cs)
    unfolding most_from
    next-outside h = rw long (go (eqb c (code "|")) refl (eqb c (code "}")) refl (eqb c (code "{")) refl)
      where
        go : (x : Bool) → eqb c (code "|") ≡ x → (y : Bool) → eqb c (code "}") ≡ y → (z : Bool) → eqb c (code "{") ≡ z
            → done + (length (piece k c n v b) + length (layout_from (moved k c n v) cs vs bs)) ≤ done + k.width + most_from outside (c ∷ cs)
        go true p y q z r =
            rw (bar-piece k c n v b p, bar-moved k c n v b p, p, most_from) (omega (arith, from-few (barred k) cs vs bs))
        go false p true q z r =
            rw (end-piece k c n v b p q, end_moved k c n v b p q, p, q, most_from) (omega (arith, rest outside (left k) 0 refl))
        go false p false q true r =
            rw (begin-piece k c n v b p q r, begin-moved k c n v b p q r h, p, q, r, most_from)
            (omega (arith, rest (inside 0 0) (entered k v) 0 (within-entered k v)))
        go false p false q false r =
            let (bars, chosen) = kept k c n v b p q r in
            let later = rest outside (moved k c n v) 0 (bars ∙ h ∙ sym chosen) in
            let one : most_from outside (c ∷ cs) ≡ most_from outside cs + 1 = rw (p, q, r, most_from) in
            omega (arith, one, later, step-few k c n v b)

    next-inside : (best now : ℕ) → Within best now k done → done + length (layout_from k (c ∷ cs) vs bs) ≤ most_from (inside best now) (c ∷ cs)
    unfolding most_from
    next-inside best now h = rw long (go (eqb c (code "|")) refl (eqb c (code "}")) refl (eqb c (code "{")) refl)
      where
        go : (x : Bool) → eqb c (code "|") ≡ x → (y : Bool) → eqb c (code "}") ≡ y → (z : Bool) → eqb c (code "{") ≡ z
            → done + (length (piece k c n v b) + length (layout_from (moved k c n v) cs vs bs)) ≤ most_from (inside best now) (c ∷ cs)
        go true p y q z r =
            let later = rest (inside (max best now) 0) (barred k) done (within-barred best now k done h) in
            rw (bar-piece k c n v b p, bar-moved k c n v b p, p, most_from) (omega (arith, later))
        go false p true q z r =
            rw (end-piece k c n v b p q, end_moved k c n v b p q, p, q, most_from)
            (omega (arith, rest outside (left k) 0 refl, within-most best now k done h))
        go false p false q true r =
            rw (begin-piece k c n v b p q r, p, q, r, most_from)
            (omega (
              arith,
              from-few (moved k c n v) cs vs bs,
              begin-width k c n v b p q r,
              within-most best now k done h,
            ))
        go false p false q false r =
            let then = within-next k c n v b p q r best now done h in
            let later = rest (inside best (now + 1)) (moved k c n v) (done + length (piece k c n v b)) then in
            let one : most_from (inside best now) (c ∷ cs) ≡ most_from (inside best (now + 1)) cs = rw (p, q, r, most_from) in
            omega (arith, one, later)

  most-next : (c : ℕ) (cs : List ℕ) → Most cs → Most (c ∷ cs)
  most-next c cs rest outside k done h = next-outside c cs rest k done h
  most-next c cs rest (inside best now) k done h = omega (arith, next-inside c cs rest k done best now h)

  most-all : (t : List ℕ) → Most t
  most-all [] = most-none
  most-all (c ∷ cs) = most-next c cs (most-all cs)

pub layout-most : (t vs bs : List ℕ) → length (layout t vs bs) ≤ most_of t
unfolding layout
layout-most t vs bs = omega (arith, most-all vs bs t outside start 0 refl)
