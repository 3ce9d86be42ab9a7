-- A record tells its log and its settings: equal records are equal logs and equal settings (`record-determines`).
-- Assumes nothing.
use mathlib.Core.Path.{◌≡◌, refl, sym, ap, ◌∙◌}
use mathlib.Core.Bool.{cond}
use mathlib.Core.List.{List, [], ◌∷◌, ◌++◌, append_assoc}
use Prim.Native.Nat.{ℕ, zero, suc, ◌*◌}
use native.Mathlib.Omega.{arith}
use lib.Dec.{eqb}
use lib.ListN.{length, get_or, drop}
use lib.Seq.{drop_at}
use Rattle.head.specs.Row.{settings_of}
use Rattle.head.specs.declared.state.Settings.{Settings}
use Rattle.plan.specs.Reading.{Entry, exposure, request, cover_move}
use Rattle.plan.specs.Rows.{settings_row, entry_row, rows_of, end_row, record_of}
use Rattle.plan.proofs.Recorded.{row-long, rows_long, record-long}

-- the settings of a row after its first number
abbrev settings_in : List ℕ → Settings
settings_in l = settings_of (drop 1 l)

abbrev entry_in : List ℕ → Entry
entry_in l =
    cond (eqb (get_or l 0 0) 1) (exposure (settings_in l))
    (cond (eqb (get_or l 0 0) 2) request (cover_move (get_or l 1 0) (get_or l 2 0) (get_or l 3 0) (get_or l 4 0)))

-- the first n rows
log_in : ℕ → List ℕ → List Entry
log_in zero l = []
log_in (suc n) l = entry_in l ∷ log_in n (drop 21 l)

entry-back : (e : Entry) (l : List ℕ) → entry_in (entry_row e ++ l) ≡ e
unfolding entry_row settings_row
entry-back (exposure r) l = refl
entry-back request l = refl
entry-back (cover_move d w s n) l = refl

log_back : (es : List Entry) (l : List ℕ) → log_in (length es) (rows_of es ++ l) ≡ es
unfolding log_in rows_of
log_back [] l = refl
log_back (e ∷ es) l =
    rw (append_assoc (entry_row e) (rows_of es) l, entry-back e (rows_of es ++ l), drop_at (entry_row e) (rows_of es ++ l) 21 (row-long e), log_back es l)

settings-back : (es : List Entry) (r : Settings) → settings_in (drop (21 * length es) (record_of es r)) ≡ r
unfolding record_of end_row settings_row
settings-back es r = rw (drop_at (rows_of es) (end_row r) (21 * length es) (rows_long es))

pub record-determines : (es fs : List Entry) (r q : Settings) → record_of es r ≡ record_of fs q → (es ≡ fs) × (r ≡ q)
unfolding record_of
record-determines es fs r q e =
    let long : length es ≡ length fs = omega (arith, ap length e, record-long es r, record-long fs q) in (
      sym (log_back es (end_row r)) ∙ rw (long, e) (log_back fs (end_row q)),
      sym (settings-back es r) ∙ rw (long, e) (settings-back fs q),
    )
