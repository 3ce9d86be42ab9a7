-- What the code makes of a table, row by row.
-- Assumes nothing.
use Rattle.std.proofs.Common.{◌≡◌, ℕ, zero, suc, ◌+◌, ◌%◌, ◌<◌, min, List, [], ◌∷◌, length, get_or, drop, set, sym, refl, ap, ◌∙◌, add-zero, zero-add, add_assoc, mod-eq_of_lt, add-one, arith, drop-cons, append-nil, drop_of_length-le}
use native.Mathlib.Nat.{mod-add-mod, add-mod-mod, suc-min-suc}
use Rattle.std.proofs.lemmas.List.Edits.{paste_more, paste_all}
use lib.Seq.{paste}
use Rattle.bitfields.specs.declared.Field.{Field}
use Rattle.bitfields.specs.Fields.{field, placed_in, composed, value_in, values_in}

-- what is composed from row i on
module _ (fs : List Field) (vs : List ℕ) (i : ℕ) where
  abbrev pub from : ℕ
  from = composed (drop i fs) (drop i vs)

  from-row : i < length fs → i < length vs → from ≡ placed_in (get_or fs i (field 0 0)) (get_or vs i 0) + composed (drop (suc i) fs) (drop (suc i) vs)
  unfolding composed
  from-row h h' = rw (drop-cons fs i (field 0 0) h, drop-cons vs i 0 h')

from-end : (fs : List Field) (vs : List ℕ) (i : ℕ) → i ≡ min (length fs) (length vs) → from fs vs i ≡ 0
unfolding composed
from-end [] vs zero h = refl
from-end [] vs (suc i) h = refl
from-end (f ∷ fs) [] zero h = refl
from-end (f ∷ fs) [] (suc i) h = absurd (omega arith)
from-end (f ∷ fs) (v ∷ vs) zero h = absurd (omega (arith, suc-min-suc (length fs) (length vs)))
from-end (f ∷ fs) (v ∷ vs) (suc i) h = from-end fs vs i (omega (arith, suc-min-suc (length fs) (length vs)))

-- a turn adds its row's value to a sum that wraps
pub turn : (m : ℕ) (fs : List Field) (vs : List ℕ) (i w p r t : ℕ) → i < length fs → i < length vs
    → (w + from fs vs i) % m ≡ t → p ≡ placed_in (get_or fs i (field 0 0)) (get_or vs i 0) % m → r ≡ (w + p) % m
    → (r + from fs vs (i + 1)) % m ≡ t
turn m fs vs i w p r t h h' e ep er =
    let x = placed_in (get_or fs i (field 0 0)) (get_or vs i 0) in
    let rest = from fs vs (suc i) in
    let sum : r ≡ (w + x) % m = er ∙ ap (λ (y : ℕ). (w + y) % m) ep ∙ add-mod-mod w x m in
    rw (sum, add-one i, mod-add-mod (w + x) m rest, add_assoc w x rest, ← from-row fs vs i h h') e

pub ended : (m : ℕ) (fs : List Field) (vs : List ℕ) (i w t : ℕ) → i ≡ min (length fs) (length vs) → (w + from fs vs i) % m ≡ t → w < m → w ≡ t
ended m fs vs i w t all e small = sym (mod-eq_of_lt small) ∙ (rw (from-end fs vs i all, add-zero w) at e)

-- the values in a table's order
pub values-length : (fs : List Field) (w : ℕ) → length (values_in fs w) ≡ length fs
unfolding values_in
values-length [] w = refl
values-length (f ∷ fs) w = ap suc (values-length fs w)

value-at : (fs : List Field) (w i : ℕ) → i < length fs → get_or (values_in fs w) i 0 ≡ value_in (get_or fs i (field 0 0)) w
unfolding values_in
value-at [] w i h = absurd (omega arith)
value-at (f ∷ fs) w zero h = refl
value-at (f ∷ fs) w (suc i) h = value-at fs w i (omega arith)

-- a turn stores a row's value
pub read-turn : (fs : List Field) (d₀ d : List ℕ) (w i x : ℕ) → i < length fs → i < length d₀
    → d ≡ paste d₀ 0 (values_in fs w) i → x ≡ value_in (get_or fs i (field 0 0)) w
    → set d i x ≡ paste d₀ 0 (values_in fs w) (i + 1)
read-turn fs d₀ d w i x row place e ex =
    let vs = values_in fs w in
    let more : set (paste d₀ 0 vs i) i (get_or vs i 0) ≡ paste d₀ 0 vs (i + 1) =
    ap (λ (k : ℕ). set (paste d₀ 0 vs i) k (get_or vs i 0)) (sym (zero-add i)) ∙ paste_more d₀ 0 vs i 0 (omega arith) (rw (values-length fs w) row) in
    rw (e, ex, ← value-at fs w i row) more

-- a row for each place
pub read-whole : (fs : List Field) (w : ℕ) (d d₀ : List ℕ) → length d₀ ≡ length fs
    → d ≡ paste d₀ 0 (values_in fs w) (min (length fs) (length d₀)) → d ≡ values_in fs w
read-whole fs w d d₀ sized e =
    let vs = values_in fs w in
    let n = min (length fs) (length d₀) in
    let whole : n ≡ length vs = omega (arith, values-length fs w, sized) in
    let none : drop (0 + n) d₀ ≡ [] = drop_of_length-le d₀ {i = 0 + n} (omega (arith, sized)) in
    e ∙ paste_all d₀ 0 vs n whole ∙ rw none (append-nil vs)
