-- Laws of the status words: the fields of each table stand apart, and each word says what it was composed of.
-- Assumes nothing.
use mathlib.Core.Path.{◌≡◌, refl}
use mathlib.Core.Bool.{true}
use Prim.Native.Nat.{ℕ, ◌<◌}
use native.Mathlib.Nat.{mod-eq_of_lt}
use lib.ListN.{get_or}
use Rattle.bitfields.specs.Fields.{field, values_in, word_bits}
use Rattle.bitfields.proofs.Apart.{apart, all_apart}
use Rattle.bitfields.proofs.Written.{all_below}
use Rattle.bitfields.proofs.Read.{value-lt}
use Rattle.bitfields.proofs.Held.{held, composed-holds}
pub use Rattle.bitfields.proofs.Flags.{bit-fits, bit-set}
use Rattle.status.specs.Status.{lamp_shutter_fields, lamp_shutter_values, lamp_shutter_word, lamp_shutter_in, sine_fields, sine_values, sine_word, sine_in, ir_flag_fields, ir_flag_values, ir_flag_word, ir_flags_in, vis_flag_fields, vis_flag_values, vis_flag_word, vis_flags_in}
use Rattle.status.specs.declared.LampShutter.{LampShutter}
use Rattle.status.specs.declared.Sine.{Sine}
use Rattle.status.specs.declared.IrFlags.{IrFlags}
use Rattle.status.specs.declared.VisFlags.{VisFlags}

-- the fields of each table stand apart
pub lamp-shutter-apart : all_apart lamp_shutter_fields ≡ true
unfolding lamp_shutter_fields apart all_apart
lamp-shutter-apart = refl

pub sine-apart : all_apart sine_fields ≡ true
unfolding sine_fields apart all_apart
sine-apart = refl

pub ir-flags-apart : all_apart ir_flag_fields ≡ true
unfolding ir_flag_fields apart all_apart
ir-flags-apart = refl

pub vis-flags-apart : all_apart vis_flag_fields ≡ true
unfolding vis_flag_fields apart all_apart
vis-flags-apart = refl

-- and within the word
pub lamp-shutter-below : all_below word_bits lamp_shutter_fields ≡ true
unfolding lamp_shutter_fields all_below
lamp-shutter-below = refl

pub sine-below : all_below word_bits sine_fields ≡ true
unfolding sine_fields all_below
sine-below = refl

pub ir-flags-below : all_below word_bits ir_flag_fields ≡ true
unfolding ir_flag_fields all_below
ir-flags-below = refl

pub vis-flags-below : all_below word_bits vis_flag_fields ≡ true
unfolding vis_flag_fields all_below
vis-flags-below = refl

-- each status word says what it was composed of
pub ir-flags-back : (f : IrFlags) → ir_flags_in (ir_flag_word f) ≡ f
unfolding ir_flags_in ir_flag_word ir_flag_fields held
ir-flags-back f = rw (composed-holds ir_flag_fields (ir_flag_values f) ir-flags-apart refl) (simp (bit-fits, bit-set))

pub vis-flags-back : (f : VisFlags) → vis_flags_in (vis_flag_word f) ≡ f
unfolding vis_flags_in vis_flag_word vis_flag_fields held
vis-flags-back f = rw (composed-holds vis_flag_fields (vis_flag_values f) vis-flags-apart refl) (simp (bit-fits, bit-set))

pub lamp-shutter-back : (l : LampShutter) → l.lampcurrent < 16 → l.shuttercurrent < 16 → lamp_shutter_in (lamp_shutter_word l) ≡ l
unfolding lamp_shutter_in lamp_shutter_word lamp_shutter_fields held
lamp-shutter-back l lamp shutter =
    rw (composed-holds lamp_shutter_fields (lamp_shutter_values l) lamp-shutter-apart refl)
    (simp (bit-fits, bit-set, mod-eq_of_lt lamp, mod-eq_of_lt shutter))

pub sine-back : (s : Sine) → s.magnitude < 4096 → sine_in (sine_word s) ≡ s
unfolding sine_in sine_word sine_fields held
sine-back s magnitude =
    rw (composed-holds sine_fields (sine_values s) sine-apart refl) (simp (bit-fits, bit-set, mod-eq_of_lt magnitude))

-- what a field holds fits it
pub lamp-shutter-fits : (w : ℕ) → ((lamp_shutter_in w).lampcurrent < 16) × ((lamp_shutter_in w).shuttercurrent < 16)
unfolding lamp_shutter_in lamp_shutter_fields values_in
lamp-shutter-fits w =
    (value-lt (get_or lamp_shutter_fields 0 (field 0 0)) w, value-lt (get_or lamp_shutter_fields 2 (field 0 0)) w)

pub sine-fits : (w : ℕ) → (sine_in w).magnitude < 4096
unfolding sine_in sine_fields values_in
sine-fits w = value-lt (get_or sine_fields 0 (field 0 0)) w
