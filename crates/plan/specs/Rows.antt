-- A log of acts as numbers: a row of 21 for each act, and a last row for the settings at the end. A plan has at most 64 acts, so that a
-- record is at most 65 rows, 1365 numbers.
-- Assumes nothing.
use Rattle.std.specs.Prelude.{ℕ, List, [], ◌∷◌, ◌++◌, replicate}
use Rattle.head.specs.Row.{register_numbers}
use Rattle.head.specs.declared.state.Settings.{Settings}
use Rattle.plan.specs.Reading.{Entry, exposure, request, cover_move}

-- The twenty registers in the order of document 01's power-on list.
unfoldable pub settings_row : Settings → List ℕ
settings_row r = register_numbers r

-- 1 an exposure with its settings, 2 a housekeeping request, 3 a cover move with its direction, wave, sensors and steps; 0 in the
-- places that an act leaves.
unfoldable pub entry_row : Entry → List ℕ
entry_row (exposure r) = 1 ∷ settings_row r
entry_row request = 2 ∷ replicate 20 0
entry_row (cover_move d w s n) = 3 ∷ d ∷ w ∷ s ∷ n ∷ replicate 16 0

unfoldable pub rows_of : List Entry → List ℕ
rows_of [] = []
rows_of (e ∷ es) = entry_row e ++ rows_of es

-- The settings as a row that begins with 0.
unfoldable pub end_row : Settings → List ℕ
end_row r = 0 ∷ settings_row r

-- The log, and after it the settings at the end.
unfoldable pub record_of : List Entry → Settings → List ℕ
record_of log r = rows_of log ++ end_row r
