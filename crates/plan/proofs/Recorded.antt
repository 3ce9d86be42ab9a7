-- A log's rows laid one after another: each act's after those before it, and at last the settings.
-- Assumes nothing.
use mathlib.Core.Path.{◌≡◌, refl, sym, ap, ◌∙◌}
use mathlib.Core.List.{List, [], ◌∷◌, ◌++◌, append_assoc, append-nil}
use Prim.Native.Nat.{ℕ, ◌+◌, ◌*◌, ◌≤◌}
use native.Mathlib.Omega.{arith}
use lib.ListN.{length, drop, length-append, length-drop}
use lib.Seq.{sets}
use Rattle.head.specs.declared.state.Settings.{Settings}
use Rattle.plan.specs.Reading.{Entry, exposure, request, cover_move}
use Rattle.plan.specs.Rows.{settings_row, entry_row, rows_of, end_row, record_of}
use Rattle.plan.specs.Read.{at_front}
use Rattle.plan.proofs.Laid.{sets-append, sets-front}

pub row-long : (e : Entry) → length (entry_row e) ≡ 21
unfolding entry_row settings_row
row-long (exposure r) = refl
row-long request = refl
row-long (cover_move d w s n) = refl

pub rows_long : (es : List Entry) → length (rows_of es) ≡ 21 * length es
unfolding rows_of
rows_long [] = refl
rows_long (e ∷ es) = omega (arith, length-append (entry_row e) (rows_of es), row-long e, rows_long es)

rows_append : (es fs : List Entry) → rows_of (es ++ fs) ≡ rows_of es ++ rows_of fs
unfolding rows_of
rows_append [] fs = refl
rows_append (e ∷ es) fs =
    ap (λ (l : List ℕ). entry_row e ++ l) (rows_append es fs) ∙ sym (append_assoc (entry_row e) (rows_of es) (rows_of fs))

pub record-long : (es : List Entry) (r : Settings) → length (record_of es r) ≡ 21 * length es + 21
unfolding record_of end_row settings_row
record-long es r = length-append (rows_of es) (end_row r) ∙ omega (arith, rows_long es)

module _ (rows : List ℕ) (acts : ℕ) where
  -- the acts of one word or order, and then the rest of the record
  pub record-next : (es fs : List Entry) (r : Settings)
      → sets rows (21 * acts) (record_of (es ++ fs) r)
      ≡ sets (sets rows (21 * acts) (rows_of es)) (21 * (acts + length es)) (record_of fs r)
  unfolding record_of
  record-next es fs r =
      let at : 21 * acts + length (rows_of es) ≡ 21 * (acts + length es) = omega (arith, rows_long es) in
      rw (rows_append es fs, append_assoc (rows_of es) (rows_of fs) (end_row r), sets-append (rows_of es) (rows_of fs ++ end_row r) rows (21 * acts), at)

  -- no act is left
  pub record-last : (r : Settings) → sets rows (21 * acts) (record_of [] r) ≡ sets rows (21 * acts) (end_row r)
  unfolding record_of rows_of
  record-last r = refl

  -- an act, and no act, as the next rows
  pub one-row : {row rows' : List ℕ} {e : Entry} {es : List Entry} → rows' ≡ sets rows (21 * acts) row → row ≡ entry_row e → es ≡ e ∷ []
      → (acts + 1 ≡ acts + length es) × (rows' ≡ sets rows (21 * acts) (rows_of es))
  unfolding rows_of
  one-row {e = e} laid is one = rw (one, append-nil (entry_row e), ← is) (refl, laid)

  pub no_row : {es : List Entry} → es ≡ [] → (acts ≡ acts + length es) × (rows ≡ sets rows (21 * acts) (rows_of es))
  unfolding rows_of
  no_row none = rw none (omega arith, refl)

-- a record that has room lies at the front, and every other place is as it was
pub record-front : (es : List Entry) (r : Settings) (rows : List ℕ) → 21 * length es + 21 ≤ length rows
    → sets rows 0 (record_of es r) ≡ at_front (record_of es r) rows
unfolding at_front
record-front es r rows h = sets-front (record_of es r) rows (rw (record-long es r) h)

pub front_long : (values old : List ℕ) → length values ≤ length old → length (at_front values old) ≡ length old
unfolding at_front
front_long values old h = omega (arith, length-append values (drop (length values) old), length-drop (length values) old)
