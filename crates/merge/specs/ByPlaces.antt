-- Merging shaped like the code: by places in the two lists, of which i entries of the CCD list and j of the infrared list are merged.
-- Assumes nothing.
use Rattle.std.specs.Prelude.{ℕ, ◌+◌, ◌≤◌, ◌<◌, false, List, eqb, length, get_or, Option, Some, None}
use Rattle.merge.specs.Merge.{tick_in, share_tick}
use Rattle.merge.specs.Answer.{ccd_count, infrared_count}
use Rattle.merge.specs.declared.answer.Parts.{Parts}
use Rattle.merge.specs.declared.turns.Given.{Given}
use Rattle.merge.specs.declared.turns.Walked.{Walked}

abbrev pub tick_at : List ℕ → ℕ → ℕ
tick_at xs i = tick_in (get_or xs i 0)

abbrev pub parts_of : ℕ → ℕ → Parts
parts_of i j = record { ccd = i; infrared = j }

-- The next entry is that of the earlier tick, the infrared one where both have the same; there is none where a list has run out.
pub data Turned (xs ys : List ℕ) (i j : ℕ) : Option Given → Type 0 where
  ccd-next : i < length xs → j < length ys → tick_at xs i < tick_at ys j
      → Turned xs ys i j (Some (record { entry = get_or xs i 0; after = parts_of (i + 1) j; same = false }))
  infrared-next : i < length xs → j < length ys → tick_at ys j ≤ tick_at xs i
      → Turned xs ys i j (Some (record { entry = get_or ys j 0; after = parts_of i (j + 1); same = eqb (tick_at xs i) (tick_at ys j) }))
  ccd-over : length xs ≤ i → Turned xs ys i j None
  infrared-over : length ys ≤ j → Turned xs ys i j None

-- What is found on the way to the end of a list.
unfoldable pub walk_of : List ℕ → List ℕ → Walked
walk_of xs ys = record { parts = parts_of (ccd_count xs ys) (infrared_count xs ys); same = share_tick xs ys }
