-- The table of upper bytes (document 02, request P2): a line for each, with the kind of the words that begin with it and the ranges of
-- those that are allowed.
-- Assumes nothing.
use Rattle.std.specs.Prelude.{ℕ, zero, suc, ◌+◌, ◌-◌, ◌*◌, ◌%◌, Bool, false, cond, not, ◌&&◌, ◌||◌, List, [], ◌∷◌, ◌++◌, ltb, eqb, take}
use Prim.Native.Char.{code}
use Rattle.words.specs.Codec.{finding_number}
use Rattle.words.specs.UpperByte.{kind_of_byte}
use Rattle.layout.specs.Below.{texts_below}
use Rattle.layout.specs.Numbers.{ascii, hex_of}
use Rattle.names.specs.Kind.{kind_name}

-- The word with upper byte b and lower byte l.
abbrev pub word_at : ℕ → ℕ → ℕ
word_at b l = b * 256 + l

-- It is allowed where the decoder finds nothing to refuse.
unfoldable pub is_allowed : ℕ → ℕ → Bool
is_allowed b l = ltb l 256 && eqb (finding_number (word_at b l)) 0

-- A range begins at an allowed word where the one below is not allowed, or has another upper byte; it ends likewise. A range of one
-- word is that word alone.
unfoldable pub is_first : ℕ → ℕ → Bool
is_first b l = eqb l 0 || not (is_allowed b (l - 1))

unfoldable pub bound_text : ℕ → ℕ → List ℕ
bound_text b l =
    cond (not (is_allowed b l)) []
    (cond (is_first b l) (code " " ∷ hex_of (word_at b l))
    (cond (is_allowed b (l + 1)) [] (code "-" ∷ hex_of (word_at b l))))

-- Whether any word with a lower byte below n is allowed.
unfoldable pub any_below : ℕ → ℕ → Bool
any_below b zero = false
any_below b (suc l) = any_below b l || is_allowed b l

unfoldable pub ranges_text : ℕ → List ℕ
ranges_text b = cond (any_below b 256) (texts_below (bound_text b) 256) (ascii " none")

-- An empty line before each row of sixteen.
unfoldable pub gap_text : ℕ → List ℕ
gap_text b = cond (eqb (b % 16) 0) (ascii "\n") []

-- The byte is the first two digits of its words.
unfoldable pub byte_text : ℕ → List ℕ
byte_text b = take 2 (hex_of (b * 256))

unfoldable pub name_text : ℕ → List ℕ
name_text b = byte_text b ++ ascii "    " ++ kind_name (kind_of_byte b)

unfoldable pub row_text : ℕ → List ℕ
row_text b = gap_text b ++ name_text b ++ ranges_text b ++ ascii "\n"

unfoldable pub table_text : List ℕ
table_text = ascii "byte  kind          allowed words\n" ++ texts_below row_text 256
