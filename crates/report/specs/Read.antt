-- A record of acts read back from its numbers: a row of 21 for each act, and one for the settings at the end (plan, Rows).
-- Assumes nothing.
use Rattle.std.specs.Prelude.{ℕ, zero, suc, cond, List, [], ◌∷◌, eqb, get_or, take, drop}
use Rattle.head.specs.Row.{settings_of}
use Rattle.head.specs.declared.state.Settings.{Settings}
use Rattle.plan.specs.Reading.{Entry, exposure, request, cover_move}

-- The twenty registers after the first number.
abbrev pub row_settings : List ℕ → Settings
row_settings row = settings_of (drop 1 row)

-- 1 is an exposure, 2 a housekeeping request, any other number a cover move with its four fields.
unfoldable pub row_entry : List ℕ → Entry
row_entry row =
    cond (eqb (get_or row 0 0) 1) (exposure (row_settings row))
    (cond (eqb (get_or row 0 0) 2) request (cover_move (get_or row 1 0) (get_or row 2 0) (get_or row 3 0) (get_or row 4 0)))

-- The entries of so many rows.
unfoldable pub entries_in : ℕ → List ℕ → List Entry
entries_in zero rows = []
entries_in (suc n) rows = row_entry (take 21 rows) ∷ entries_in n (drop 21 rows)
