-- Bit fields of a word, bit 0 being its lowest: a table gives each field's lowest bit and width.
-- Assumes nothing.
use Rattle.std.specs.Prelude.{◌≡◌, ℕ, zero, suc, ◌+◌, ◌-◌, ◌*◌, ◌/◌, ◌%◌, ◌^◌, ◌<◌, Bool, true, cond, ◌&&◌, List, [], ◌∷◌, length, ◌==◌, nat_le, nat_lt, slice_index_or}
use Rattle.bitfields.specs.declared.Field.{Field}

abbrev pub field : ℕ → ℕ → Field
field l w = record { lowest = l; width = w }

-- A value at its field's place, as many of its low bits as the field is wide.
abbrev pub placed_in : Field → ℕ → ℕ
placed_in f v = v % 2 ^ f.width * 2 ^ f.lowest

-- The word whose fields hold these values, each in its field's width. All other bits 0.
unfoldable pub composed : List Field → List ℕ → ℕ
composed [] vs = 0
composed (f ∷ fs) [] = 0
composed (f ∷ fs) (v ∷ vs) = placed_in f v + composed fs vs

-- The value that a word holds in a field.
abbrev pub value_in : Field → ℕ → ℕ
value_in f w = w / 2 ^ f.lowest % 2 ^ f.width

-- The values that a word holds in its fields.
unfoldable pub values_in : List Field → ℕ → List ℕ
values_in [] w = []
values_in (f ∷ fs) w = value_in f w ∷ values_in fs w

-- A flag as the value of a field of one bit, and back.
abbrev pub bit : Bool → ℕ
bit b = cond b 1 0

abbrev pub is_set : ℕ → Bool
is_set v = v == 1

-- Bit b of a number.
unfoldable pub bit_at : ℕ → ℕ → ℕ
bit_at n b = n / 2 ^ b % 2

-- Whether bit b is one of a field's.
unfoldable pub has_bit : Field → ℕ → Bool
has_bit f b = nat_le f.lowest b && nat_lt b (f.lowest + f.width)

-- No two fields of a table share a bit: those that have the same bit are the same.
unfoldable pub NoBitShared : List Field → Type 0
NoBitShared fs =
    (i j b : ℕ) → i < length fs → j < length fs → has_bit (slice_index_or fs i (field 0 0)) b ≡ true → has_bit (slice_index_or fs j (field 0 0)) b ≡ true → i ≡ j

-- What a table puts at bit b: where a field stands, that bit of the field's value; elsewhere 0.
unfoldable pub bit_put : List Field → List ℕ → ℕ → ℕ
bit_put [] vs b = 0
bit_put (f ∷ fs) [] b = 0
bit_put (f ∷ fs) (v ∷ vs) b = cond (has_bit f b) (bit_at v (b - f.lowest)) (bit_put fs vs b)

-- The n lowest bits of a number, the highest of them first, as in a drawing.
unfoldable pub drawn : ℕ → ℕ → List ℕ
drawn zero w = []
drawn (suc n) w = bit_at w n ∷ drawn n w

-- How many bits a word has.
abbrev pub word_bits : ℕ
word_bits = 16
