-- The status words bit by bit.
-- Assumes nothing.
use mathlib.Core.Path.{◌≡◌, refl, ◌∙◌}
use mathlib.Core.List.{[], ◌∷◌}
use Prim.Native.Nat.{ℕ}
use native.Mathlib.Omega.{arith}
use lib.ListN.{get_or}
use Rattle.bitfields.specs.Fields.{field, NoBitShared, bit_at, has_bit, bit_put, drawn, word_bits}
use Rattle.bitfields.proofs.Apart.{no-bit-shared}
use Rattle.bitfields.proofs.Written.{bits-written, drawn_put, drawn-written}
use Rattle.bitfields.proofs.Read.{drawn_from, drawn-read}
use Rattle.bitfields.proofs.Flags.{bit-drawn}
use Rattle.status.specs.Status.{bit, is_set, values_in, lamp_shutter_fields, lamp_shutter_values, lamp_shutter_word, lamp_shutter_in, sine_fields, sine_values, sine_word, sine_in, ir_flag_fields, ir_flag_values, ir_flag_word, ir_flags_in, vis_flag_fields, vis_flag_values, vis_flag_word, vis_flags_in}
use Rattle.status.specs.declared.LampShutter.{LampShutter}
use Rattle.status.specs.declared.Sine.{Sine}
use Rattle.status.specs.declared.IrFlags.{IrFlags}
use Rattle.status.specs.declared.VisFlags.{VisFlags}
use Rattle.status.proofs.Fields.{lamp-shutter-apart, sine-apart, ir-flags-apart, vis-flags-apart}

-- No two fields share a bit.
pub lamp-shutter-no-bit-shared : NoBitShared lamp_shutter_fields
lamp-shutter-no-bit-shared = no-bit-shared lamp_shutter_fields lamp-shutter-apart

pub sine-no-bit-shared : NoBitShared sine_fields
sine-no-bit-shared = no-bit-shared sine_fields sine-apart

pub ir-flags-no-bit-shared : NoBitShared ir_flag_fields
ir-flags-no-bit-shared = no-bit-shared ir_flag_fields ir-flags-apart

pub vis-flags-no-bit-shared : NoBitShared vis_flag_fields
vis-flags-no-bit-shared = no-bit-shared vis_flag_fields vis-flags-apart

-- The written word has in each bit what its table puts there.
pub lamp-shutter-bits : (l : LampShutter) (b : ℕ) → bit_at (lamp_shutter_word l) b ≡ bit_put lamp_shutter_fields (lamp_shutter_values l) b
unfolding lamp_shutter_word
lamp-shutter-bits l = bits-written lamp_shutter_fields (lamp_shutter_values l) lamp-shutter-apart

pub sine-bits : (s : Sine) (b : ℕ) → bit_at (sine_word s) b ≡ bit_put sine_fields (sine_values s) b
unfolding sine_word
sine-bits s = bits-written sine_fields (sine_values s) sine-apart

pub ir-flags-bits : (f : IrFlags) (b : ℕ) → bit_at (ir_flag_word f) b ≡ bit_put ir_flag_fields (ir_flag_values f) b
unfolding ir_flag_word
ir-flags-bits f = bits-written ir_flag_fields (ir_flag_values f) ir-flags-apart

pub vis-flags-bits : (f : VisFlags) (b : ℕ) → bit_at (vis_flag_word f) b ≡ bit_put vis_flag_fields (vis_flag_values f) b
unfolding vis_flag_word
vis-flags-bits f = bits-written vis_flag_fields (vis_flag_values f) vis-flags-apart

-- The sixteen bits as source document 000 draws them, bit 15 first.
-- The bit that is always set.
set-drawn : bit_at 1 0 ≡ 1
unfolding bit_at
set-drawn = refl

-- 000B VVVV 000B VVVV
pub lamp-shutter-drawn : (l : LampShutter)
    → drawn word_bits (lamp_shutter_word l)
    ≡ 0 ∷ 0 ∷ 0 ∷ bit l.closed
    ∷ bit_at l.shuttercurrent 3 ∷ bit_at l.shuttercurrent 2 ∷ bit_at l.shuttercurrent 1 ∷ bit_at l.shuttercurrent 0
    ∷ 0 ∷ 0 ∷ 0 ∷ bit l.lampon
    ∷ bit_at l.lampcurrent 3 ∷ bit_at l.lampcurrent 2 ∷ bit_at l.lampcurrent 1 ∷ bit_at l.lampcurrent 0
    ∷ []
unfolding lamp_shutter_word lamp_shutter_fields drawn_put bit_put has_bit
lamp-shutter-drawn l = drawn-written lamp_shutter_fields (lamp_shutter_values l) lamp-shutter-apart word_bits ∙ simp bit-drawn

-- 000S VVVV VVVV VVVV
pub sine-drawn : (s : Sine)
    → drawn word_bits (sine_word s)
    ≡ 0 ∷ 0 ∷ 0 ∷ bit s.negative
    ∷ bit_at s.magnitude 11 ∷ bit_at s.magnitude 10 ∷ bit_at s.magnitude 9 ∷ bit_at s.magnitude 8
    ∷ bit_at s.magnitude 7 ∷ bit_at s.magnitude 6 ∷ bit_at s.magnitude 5 ∷ bit_at s.magnitude 4
    ∷ bit_at s.magnitude 3 ∷ bit_at s.magnitude 2 ∷ bit_at s.magnitude 1 ∷ bit_at s.magnitude 0
    ∷ []
unfolding sine_word sine_fields drawn_put bit_put has_bit
sine-drawn s = drawn-written sine_fields (sine_values s) sine-apart word_bits ∙ simp bit-drawn

-- 0BBB 00B0 0BBB BBBB
pub ir-flags-drawn : (f : IrFlags)
    → drawn word_bits (ir_flag_word f)
    ≡ 0 ∷ bit f.notopen ∷ bit f.notclosed ∷ bit f.opens
    ∷ 0 ∷ 0 ∷ bit f.annealing ∷ 0
    ∷ 0 ∷ bit f.latchup ∷ bit f.detector ∷ bit f.scan
    ∷ bit f.word ∷ bit f.time ∷ 1 ∷ bit f.acquired
    ∷ []
unfolding ir_flag_word ir_flag_fields drawn_put bit_put has_bit
ir-flags-drawn f = drawn-written ir_flag_fields (ir_flag_values f) ir-flags-apart word_bits ∙ simp (set-drawn, bit-drawn)

-- 0000 000B 000B BBBB
pub vis-flags-drawn : (f : VisFlags)
    → drawn word_bits (vis_flag_word f)
    ≡ 0 ∷ 0 ∷ 0 ∷ 0
    ∷ 0 ∷ 0 ∷ 0 ∷ bit f.lampon
    ∷ 0 ∷ 0 ∷ 0 ∷ bit f.latchup
    ∷ bit f.word ∷ bit f.time ∷ 1 ∷ bit f.acquired
    ∷ []
unfolding vis_flag_word vis_flag_fields drawn_put bit_put has_bit
vis-flags-drawn f = drawn-written vis_flag_fields (vis_flag_values f) vis-flags-apart word_bits ∙ simp (set-drawn, bit-drawn)

-- What a word says, each flag by its bit and each number by its bits.
pub lamp-shutter-read : (w : ℕ)
    → (drawn 4 (lamp_shutter_in w).lampcurrent ≡ bit_at w 3 ∷ bit_at w 2 ∷ bit_at w 1 ∷ bit_at w 0 ∷ [])
    × ((lamp_shutter_in w).lampon ≡ is_set (bit_at w 4))
    × (drawn 4 (lamp_shutter_in w).shuttercurrent ≡ bit_at w 11 ∷ bit_at w 10 ∷ bit_at w 9 ∷ bit_at w 8 ∷ [])
    × ((lamp_shutter_in w).closed ≡ is_set (bit_at w 12))
unfolding lamp_shutter_in lamp_shutter_fields values_in drawn_from bit_at
lamp-shutter-read w =
    (drawn-read (get_or lamp_shutter_fields 0 (field 0 0)) w 4 (omega arith), refl, drawn-read (get_or lamp_shutter_fields 2 (field 0 0)) w 4 (omega arith), refl)

pub sine-read : (w : ℕ)
    → (drawn 12 (sine_in w).magnitude
    ≡ bit_at w 11 ∷ bit_at w 10 ∷ bit_at w 9 ∷ bit_at w 8
    ∷ bit_at w 7 ∷ bit_at w 6 ∷ bit_at w 5 ∷ bit_at w 4
    ∷ bit_at w 3 ∷ bit_at w 2 ∷ bit_at w 1 ∷ bit_at w 0
    ∷ [])
    × ((sine_in w).negative ≡ is_set (bit_at w 12))
unfolding sine_in sine_fields values_in drawn_from bit_at
sine-read w = (drawn-read (get_or sine_fields 0 (field 0 0)) w 12 (omega arith), refl)

pub ir-flags-read : (w : ℕ)
    → ir_flags_in w
    ≡ record {
      acquired = is_set (bit_at w 0);
      time = is_set (bit_at w 2);
      word = is_set (bit_at w 3);
      scan = is_set (bit_at w 4);
      detector = is_set (bit_at w 5);
      latchup = is_set (bit_at w 6);
      annealing = is_set (bit_at w 9);
      opens = is_set (bit_at w 12);
      notclosed = is_set (bit_at w 13);
      notopen = is_set (bit_at w 14);
    }
unfolding ir_flags_in ir_flag_fields values_in bit_at
ir-flags-read w = refl

pub vis-flags-read : (w : ℕ)
    → vis_flags_in w
    ≡ record {
      acquired = is_set (bit_at w 0);
      time = is_set (bit_at w 2);
      word = is_set (bit_at w 3);
      latchup = is_set (bit_at w 4);
      lampon = is_set (bit_at w 8);
    }
unfolding vis_flags_in vis_flag_fields values_in bit_at
vis-flags-read w = refl
