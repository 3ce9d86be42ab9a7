-- Source document 000, section 3.6, and document 02, request P5: the pixel map of the high-resolution head, 270 rows of 438 pixels, one
-- bit a pixel, row by row.
-- Assumes nothing.
use Rattle.std.specs.Prelude.{ℕ, zero, suc, ◌+◌, ◌-◌, ◌*◌, ◌/◌, ◌%◌, ◌^◌, Bool, cond, not, List, eqb, get_or}

abbrev pub rows : ℕ
rows = 270

abbrev pub columns : ℕ
columns = 438

abbrev pub pixels : ℕ
pixels = rows * columns

abbrev pub map_bytes : ℕ
map_bytes = 14783

-- Whether bit n of a map is set. The first is the top bit of the first byte.
unfoldable pub is_set : List ℕ → ℕ → Bool
is_set map n = eqb (get_or map (n / 8) 0 / 2 ^ (7 - n % 8) % 2) 1

-- Whether the pixel at a row and a column is lit, both from 0.
unfoldable pub is_lit : List ℕ → ℕ → ℕ → Bool
is_lit map r c = is_set map (r * columns + c)

-- How many numbers below n pass a test, and the sum of what they give.
unfoldable pub how_many : (ℕ → Bool) → ℕ → ℕ
how_many test zero = 0
how_many test (suc n) = how_many test n + cond (test n) 1 0

unfoldable pub sum_below : (ℕ → ℕ) → ℕ → ℕ
sum_below f zero = 0
sum_below f (suc n) = sum_below f n + f n

-- The number of lighted pixels: of the rows and columns whose pixel is lit.
unfoldable pub lighted : List ℕ → ℕ
lighted map = sum_below (λ r. how_many (is_lit map r) columns) rows

-- The bits that are left over at the end.
abbrev pub spare_bits : ℕ
spare_bits = 8 * map_bytes - pixels

unfoldable pub spare_set : List ℕ → Bool
spare_set map = not (eqb (how_many (λ k. is_set map (pixels + k)) spare_bits) 0)
