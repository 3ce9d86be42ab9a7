-- Document 01, "Plans": the seventeen codes of an order, their fields and the fields' ranges.
-- Assumes nothing.
use Rattle.std.specs.Prelude.{ℕ, ◌+◌, ◌*◌, ◌^◌, ◌/◌, ◌%◌, Bool, true, false, cond, ◌&&◌, ◌||◌, List, [], ◌∷◌, leb, eqb, length, get_or}
use Rattle.orders.specs.declared.order.Order.{Order}

-- The codes by name.
abbrev pub vdetcom : ℕ
vdetcom = 1

abbrev pub vdetadj : ℕ
vdetadj = 2

abbrev pub ir_times : ℕ
ir_times = 3

abbrev pub ccd_times : ℕ
ccd_times = 4

abbrev pub window_mode : ℕ
window_mode = 5

abbrev pub window : ℕ
window = 6

abbrev pub detector : ℕ
detector = 7

abbrev pub ccd_lamp : ℕ
ccd_lamp = 8

abbrev pub ir_lamp : ℕ
ir_lamp = 9

abbrev pub shutter : ℕ
shutter = 10

abbrev pub annealing : ℕ
annealing = 11

abbrev pub mirror : ℕ
mirror = 12

abbrev pub motor : ℕ
motor = 13

abbrev pub cover : ℕ
cover = 14

abbrev pub expose : ℕ
expose = 15

abbrev pub housekeeping : ℕ
housekeeping = 16

abbrev pub wait : ℕ
wait = 17

abbrev pub is : Order → ℕ → Bool
is o c = eqb o.code c

-- The order with another code.
abbrev pub recoded : ℕ → Order → Order
recoded n o = record { code = n; a = o.a; b = o.b; c = o.c; d = o.d }

-- The least and the greatest value of a field.
pub record Range : Type 0 where
  pub least : ℕ
  pub greatest : ℕ

abbrev pub ◌to◌ : ℕ → ℕ → Range
a to b = record { least = a; greatest = b }

infixl 90 ◌to◌
-- The bytes of each field (two where document 01 marks it w, one for b), and the ranges of the fields.
pub record Row : Type 0 where
  pub width : ℕ
  pub fields : List Range

abbrev pub w : List Range → Row
w fs = record { width = 2; fields = fs }

abbrev pub b : List Range → Row
b fs = record { width = 1; fields = fs }

-- Row 0 is no code. In row 12 the sine is any w: `related` judges it.
unfoldable pub rows : List Row
rows =
    b []
    ∷ w (0 to 4095 ∷ [])  --  1 VDETCOM
    ∷ w (0 to 4095 ∷ [])  --  2 VDETADJ
    ∷ w (0 to 1023 ∷ 0 to 1023 ∷ [])  --  3 IR delay, expo
    ∷ w (5 to 1023 ∷ 0 to 1023 ∷ [])  --  4 CCD delay, expo
    ∷ b (0 to 1 ∷ [])  --  5 window mode
    ∷ w (0 to 148 ∷ 0 to 0 ∷ 875 to 1023 ∷ 511 to 511 ∷ [])  --  6 window X1, Y1, X2, Y2
    ∷ b (0 to 1 ∷ [])  --  7 detector
    ∷ b (0 to 1 ∷ 0 to 3 ∷ [])  --  8 CCD lamp on, current
    ∷ b (0 to 1 ∷ 0 to 15 ∷ [])  --  9 IR lamp on, current
    ∷ b (0 to 1 ∷ 0 to 15 ∷ [])  -- 10 shutter closed, current
    ∷ b (0 to 1 ∷ 0 to 63 ∷ [])  -- 11 annealing on, limit
    ∷ w (0 to 65535 ∷ 0 to 4095 ∷ [])  -- 12 mirror sine, cosine
    ∷ b (0 to 1 ∷ [])  -- 13 motor
    ∷ b (0 to 1 ∷ 0 to 1 ∷ 0 to 1 ∷ 0 to 81 ∷ [])  -- 14 cover direction, wave, sensors, steps
    ∷ b []  -- 15 expose
    ∷ b []  -- 16 housekeeping
    ∷ w (0 to 65535 ∷ [])  -- 17 wait
    ∷ []

abbrev pub row_of : ℕ → Row
row_of code = get_or rows code (b [])

-- The place of a code's row; what is no code has row 0.
unfoldable pub place_of : ℕ → ℕ
place_of code = cond (leb code 17) code 0

-- The octal digit at a code's place.
abbrev pub digit_at : ℕ → ℕ → ℕ
digit_at digits code = digits / 2 ^ (3 * place_of code) % 8

-- How many fields a code has, and the bytes of each.
unfoldable pub count_of : ℕ → ℕ
unfolding rows
count_of code = length (row_of code).fields

unfoldable pub width_of : ℕ → ℕ
unfolding rows
width_of code = (row_of code).width

-- Codes are 1-17.
unfoldable pub known : ℕ → Bool
known code = leb 1 code && leb code 17

-- What the order's length byte counts: the code and the fields.
unfoldable pub length_of : ℕ → ℕ
length_of code = 1 + width_of code * count_of code

abbrev pub fields_of : Order → List ℕ
fields_of o = o.a ∷ o.b ∷ o.c ∷ o.d ∷ []

abbrev pub holds : Range → ℕ → Bool
holds r v = leb r.least v && leb v r.greatest

unfoldable pub within : List Range → List ℕ → Bool
within [] vs = true
within (r ∷ rs) [] = false
within (r ∷ rs) (v ∷ vs) = holds r v && within rs vs

-- X2 = X1 + 875. The sine, a two's complement w, is in -4095..4095.
unfoldable pub related : Order → Bool
related o =
    cond (is o window) (eqb o.c (o.a + 875))
    (cond (is o mirror) (leb o.a 4095 || leb 61441 o.a) true)

-- Every field is in range.
unfoldable pub fields_fit : Order → Bool
unfolding rows
fields_fit o = within (row_of o.code).fields (fields_of o) && related o

-- The code is known and every field is in range.
unfoldable pub fit : Order → Bool
fit o = known o.code && fields_fit o
