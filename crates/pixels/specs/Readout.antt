-- Source document 000, section 5.1, and document 02, request P5: the time of a readout, in microseconds.
-- Assumes nothing.
use Rattle.std.specs.Prelude.{ℕ, ◌+◌, ◌-◌, ◌*◌}
use Rattle.pixels.specs.Map.{rows, pixels}

-- 10 for each lighted pixel, 1 for each other and 40 for each line.
abbrev pub readout_time : ℕ → ℕ
readout_time lit = 10 * lit + 1 * (pixels - lit) + 40 * rows
