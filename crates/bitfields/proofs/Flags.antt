-- A flag as the value of a field of one bit, and back.
-- Assumes nothing.
use Rattle.std.proofs.Common.{◌≡◌, ◌%◌, Bool, true, false, refl}
use mir.Val.{bool_byte}
use Rattle.bitfields.specs.Fields.{bit, is_set, bit_at}

-- in the code, a cast
pub flag-number : (b : Bool) → bool_byte b ≡ bit b
flag-number true = refl
flag-number false = refl

pub bit-fits : (b : Bool) → bit b % 2 ≡ bit b
bit-fits true = refl
bit-fits false = refl

pub bit-set : (b : Bool) → is_set (bit b) ≡ b
bit-set true = refl
bit-set false = refl

pub bit-drawn : (b : Bool) → bit_at (bit b) 0 ≡ bit b
unfolding bit_at
bit-drawn true = refl
bit-drawn false = refl
