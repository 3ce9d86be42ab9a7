-- Document 02, request P5: what is measured of a map, or why it is refused.
-- Assumes nothing.
use Rattle.std.specs.Prelude.{ℕ, cond, not, List, eqb, length, Result, Ok, Err}
use Rattle.pixels.specs.Map.{map_bytes, spare_set, lighted}
use Rattle.pixels.specs.Readout.{readout_time}
use Rattle.pixels.specs.declared.MapError.{MapError}
use Rattle.pixels.specs.declared.MapError.TheVariants.{Length, SpareBit}

-- The length is judged first, then the spare bits.
unfoldable pub measured : List ℕ → ℕ → Result ℕ MapError
measured map n = cond (eqb (length map) map_bytes) (cond (spare_set map) (Err SpareBit) (Ok n)) (Err Length)

unfoldable pub lighted_of : List ℕ → Result ℕ MapError
lighted_of map = measured map (lighted map)

unfoldable pub readout_of : List ℕ → Result ℕ MapError
readout_of map = measured map (readout_time (lighted map))

-- Request P5's number for each refusal: 41 map length, 42 a spare bit set.
abbrev pub error_number : MapError → ℕ
error_number Length = 41
error_number SpareBit = 42

-- The same numbers for each answer: 0 where there is nothing to refuse.
abbrev pub measured_number : Result ℕ MapError → ℕ
measured_number (Ok n) = 0
measured_number (Err e) = error_number e

-- What is measured; 0 for a map that is refused.
abbrev pub measured_value : Result ℕ MapError → ℕ
measured_value (Ok n) = n
measured_value (Err e) = 0

-- The same numbers from the map itself, in the order of the checks.
unfoldable pub map_number : List ℕ → ℕ
map_number map = cond (not (eqb (length map) map_bytes)) 41 (cond (spare_set map) 42 0)
