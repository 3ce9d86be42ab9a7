-- The raster of a raw portable bitmap (PBM): 270 rows of 55 bytes, the first pixel of a row in the top bit of its first byte, a lighted
-- pixel 1, and the two bits left over in a row's last byte 0.
-- Assumes nothing.
use Rattle.std.specs.Prelude.{ℕ, zero, suc, ◌+◌, ◌*◌, Bool, ◌&&◌, List, [], ◌∷◌, ltb}
use Rattle.layout.specs.Below.{texts_below}
use Rattle.layout.specs.Numbers.{bit}
use Rattle.pixels.specs.Map.{rows, columns, is_lit}

-- A row's columns, and past its last one nothing lit.
unfoldable pub is_shown : List ℕ → ℕ → ℕ → Bool
is_shown map r c = ltb c columns && is_lit map r c

-- So many pixels from a column on, as the binary digits of a number, the first at the top.
unfoldable pub bits_from : List ℕ → ℕ → ℕ → ℕ → ℕ
bits_from map r c zero = 0
bits_from map r c (suc n) = 2 * bits_from map r c n + bit (is_shown map r (c + n))

abbrev pub eight_from : List ℕ → ℕ → ℕ → ℕ
eight_from map r c = bits_from map r c 8

abbrev pub row_bytes : ℕ
row_bytes = 55

unfoldable pub byte_text : List ℕ → ℕ → ℕ → List ℕ
byte_text map r k = eight_from map r (8 * k) ∷ []

unfoldable pub row_text : List ℕ → ℕ → List ℕ
row_text map r = texts_below (byte_text map r) row_bytes

unfoldable pub raster_text : List ℕ → List ℕ
raster_text map = texts_below (row_text map) rows
