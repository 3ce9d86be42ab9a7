-- A pixel map as a raw portable bitmap: a header with a comment that gives the lighted pixels and the time of their readout, and the raster.
-- Assumes nothing.
use Rattle.std.specs.Prelude.{ℕ, List, ◌++◌}
use Rattle.layout.specs.Numbers.{ascii, decimal_of}
use Rattle.pixels.specs.Measured.{lighted_of, readout_of, measured_value}
use Rattle.picture.specs.Raster.{raster_text}

unfoldable pub header_text : ℕ → ℕ → List ℕ
header_text lit time =
    ascii "P4\n# lighted " ++ decimal_of lit ++ (ascii " of 118260 pixels, readout " ++ decimal_of time) ++ ascii " us\n438 270\n"

-- The two numbers are those of the map, 0 where it is refused.
unfoldable pub picture_text : List ℕ → List ℕ
picture_text map = header_text (measured_value (lighted_of map)) (measured_value (readout_of map)) ++ raster_text map
