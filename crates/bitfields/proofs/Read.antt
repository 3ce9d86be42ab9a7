-- The value that a word holds in a field, bit by bit.
-- Assumes nothing.
use Rattle.std.proofs.Common.{◌≡◌, ℕ, zero, suc, ◌+◌, ◌/◌, ◌^◌, ◌<◌, ◌≤◌, Bool, true, false, cond, ltb, List, [], ◌∷◌, refl, ◌∙◌, mod-lt, arith, pow_pos, ltb-false, ltb-true, lt-ltb}
use Rattle.bitfields.specs.declared.Field.{Field}
use Rattle.bitfields.specs.Fields.{value_in, bit_at, drawn}
use Rattle.bitfields.proofs.Bits.{bit-shr, bit_kept, bit-over}

-- what a field holds fits it
pub value-lt : (f : Field) (w : ℕ) → value_in f w < 2 ^ f.width
value-lt f w = mod-lt (w / 2 ^ f.lowest) (pow_pos f.width)

-- The value has the word's bits from the field's lowest on, as many as the field is wide, and no other.
pub bits-read : (f : Field) (w b : ℕ) → bit_at (value_in f w) b ≡ cond (ltb b f.width) (bit_at w (f.lowest + b)) 0
bits-read f w b = go (ltb b f.width) refl
  where
    go : (t : Bool) → ltb b f.width ≡ t → bit_at (value_in f w) b ≡ cond (ltb b f.width) (bit_at w (f.lowest + b)) 0
    go true e =
        rw e (bit_kept (w / 2 ^ f.lowest) f.width b (ltb-true b f.width e) ∙ bit-shr w f.lowest b)
    go false e = rw e (bit-over (value_in f w) f.width b (value-lt f w) (ltb-false b f.width e))

-- n bits of a word from bit l on, the highest of them first
unfoldable pub drawn_from : ℕ → ℕ → ℕ → List ℕ
drawn_from l zero w = []
drawn_from l (suc n) w = bit_at w (l + n) ∷ drawn_from l n w

pub drawn-read : (f : Field) (w n : ℕ) → n ≤ f.width → drawn n (value_in f w) ≡ drawn_from f.lowest n w
unfolding drawn drawn_from
drawn-read f w zero h = refl
drawn-read f w (suc n) h = rw (bits-read f w n, lt-ltb n f.width (omega arith), drawn-read f w n (omega arith))
