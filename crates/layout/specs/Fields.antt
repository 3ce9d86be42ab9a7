-- A field of a line: a number as text in a given width.
-- Assumes nothing.
use Rattle.std.specs.Prelude.{ℕ, ◌-◌, cond, List, ◌++◌, leb, eqb, length, replicate}
use Prim.Native.Char.{code}
use Rattle.layout.specs.Numbers.{decimal_of, seconds_of, sine_text}

-- The marks of fields: a decimal number at the right of its field or by itself, a sine register, ticks in seconds.
abbrev pub number : ℕ
number = code "#"

abbrev pub plain : ℕ
plain = code "@"

abbrev pub sine : ℕ
sine = code "~"

abbrev pub seconds : ℕ
seconds = code "%"

unfoldable pub value_text : ℕ → ℕ → List ℕ
value_text mark v = cond (eqb mark sine) (sine_text v) (cond (eqb mark seconds) (seconds_of v) (decimal_of v))

-- At the right of a field of so many columns, or by itself; a field that is too narrow shows # in each column, and no digit.
unfoldable pub field_text : ℕ → ℕ → ℕ → List ℕ
field_text mark width v =
    let text = value_text mark v in
    cond (leb (length text) width)
    (cond (eqb mark plain) text (replicate (width - length text) (code " ") ++ text))
    (replicate width (code "#"))
