-- Document 01, "Blocks": the status words. The tables give each field's lowest bit and width in document 01's numbering, beside
-- the names of source document 000's drawing. Bit 1 of a flag word is a field whose value is always 1; the bits of no field are 0.
-- Assumes nothing.
use Rattle.std.specs.Prelude.{ℕ, Bool, List, [], ◌∷◌, eqb, get_or}
use Rattle.bitfields.specs.declared.Field.{Field}
use Rattle.bitfields.specs.Fields.{field}
pub use Rattle.bitfields.specs.Fields.{bit, is_set}
unfoldable pub use Rattle.bitfields.specs.Fields.{composed, values_in}
use Rattle.status.specs.declared.LampShutter.{LampShutter}
use Rattle.status.specs.declared.Sine.{Sine}
use Rattle.status.specs.declared.IrFlags.{IrFlags}
use Rattle.status.specs.declared.VisFlags.{VisFlags}

-- M_IR_LAMP_SHUTTER
unfoldable pub lamp_shutter_fields : List Field
lamp_shutter_fields =
    field 0 4  -- 0 M_IR_LAMP_CURR: lamp current
    ∷ field 4 1  -- 1 M_IR_LAMP_ST: lamp on
    ∷ field 8 4  -- 2 M_SHUTTER_CURR: shutter current
    ∷ field 12 1  -- 3 M_SHUTTE_ST: closed
    ∷ []

-- M_MIRROR_SIN_HK
unfoldable pub sine_fields : List Field
sine_fields =
    field 0 12  -- 0 V: magnitude
    ∷ field 12 1  -- 1 S: sign
    ∷ []

-- M_IR_FLAG_ST
unfoldable pub ir_flag_fields : List Field
ir_flag_fields =
    field 0 1  -- 0 M_IR_SCAN_FLAG: after an acquisition
    ∷ field 1 1  -- 1 M_IR_H/K_FLAG: always set
    ∷ field 2 1  -- 2 M_IR_CMD_TIME_ERROR: time
    ∷ field 3 1  -- 3 M_IR_CMD_WORD_ERROR: word
    ∷ field 4 1  -- 4 M_SCAN_CMD_WORD_ERROR: scan
    ∷ field 5 1  -- 5 M_IR_DETECT_ST: detector
    ∷ field 6 1  -- 6 M_IR_ADC_LTC: latch-up
    ∷ field 9 1  -- 7 M_IR_ANN_ST: annealing
    ∷ field 12 1  -- 8 M_COVER_ST: cover direction
    ∷ field 13 1  -- 9 M_COVER_ST, HES1: not closed
    ∷ field 14 1  -- 10 M_COVER_ST, HES2: not open
    ∷ []

-- M_VIS_FLAG_ST
unfoldable pub vis_flag_fields : List Field
vis_flag_fields =
    field 0 1  -- 0 M_CCD_SCAN_FLAG: after an acquisition
    ∷ field 1 1  -- 1 M_VIS_H/K_FLAG: always set
    ∷ field 2 1  -- 2 M_VIS_CMD_TIME_ERROR: time
    ∷ field 3 1  -- 3 M_VIS_CMD_WORD_ERROR: word
    ∷ field 4 1  -- 4 M_VIS_ADC_LTC: latch-up
    ∷ field 8 1  -- 5 M_CCD_LAMP_ST: CCD lamp
    ∷ []

-- The values of the fields, in the table's order, and what such values say; the word that holds them, and what a word says.
abbrev pub lamp_shutter_values : LampShutter → List ℕ
lamp_shutter_values l = l.lampcurrent ∷ bit l.lampon ∷ l.shuttercurrent ∷ bit l.closed ∷ []

abbrev pub lamp_shutter_of : List ℕ → LampShutter
lamp_shutter_of vs =
    let v : ℕ → ℕ = λ k. get_or vs k 0 in
    record { lampcurrent = v 0; lampon = is_set (v 1); shuttercurrent = v 2; closed = is_set (v 3) }

unfoldable pub lamp_shutter_word : LampShutter → ℕ
lamp_shutter_word l = composed lamp_shutter_fields (lamp_shutter_values l)

unfoldable pub lamp_shutter_in : ℕ → LampShutter
lamp_shutter_in w = lamp_shutter_of (values_in lamp_shutter_fields w)

abbrev pub sine_values : Sine → List ℕ
sine_values s = s.magnitude ∷ bit s.negative ∷ []

abbrev pub sine_of : List ℕ → Sine
sine_of vs =
    let v : ℕ → ℕ = λ k. get_or vs k 0 in
    record { magnitude = v 0; negative = is_set (v 1) }

unfoldable pub sine_word : Sine → ℕ
sine_word s = composed sine_fields (sine_values s)

unfoldable pub sine_in : ℕ → Sine
sine_in w = sine_of (values_in sine_fields w)

abbrev pub ir_flag_values : IrFlags → List ℕ
ir_flag_values f =
    bit f.acquired
    ∷ 1
    ∷ bit f.time
    ∷ bit f.word
    ∷ bit f.scan
    ∷ bit f.detector
    ∷ bit f.latchup
    ∷ bit f.annealing
    ∷ bit f.opens
    ∷ bit f.notclosed
    ∷ bit f.notopen
    ∷ []

abbrev pub ir_flags_of : List ℕ → IrFlags
ir_flags_of vs =
    let v : ℕ → Bool = λ k. is_set (get_or vs k 0) in
    record {
      acquired = v 0;
      time = v 2;
      word = v 3;
      scan = v 4;
      detector = v 5;
      latchup = v 6;
      annealing = v 7;
      opens = v 8;
      notclosed = v 9;
      notopen = v 10;
    }

unfoldable pub ir_flag_word : IrFlags → ℕ
ir_flag_word f = composed ir_flag_fields (ir_flag_values f)

unfoldable pub ir_flags_in : ℕ → IrFlags
ir_flags_in w = ir_flags_of (values_in ir_flag_fields w)

abbrev pub vis_flag_values : VisFlags → List ℕ
vis_flag_values f =
    bit f.acquired ∷ 1 ∷ bit f.time ∷ bit f.word ∷ bit f.latchup ∷ bit f.lampon ∷ []

abbrev pub vis_flags_of : List ℕ → VisFlags
vis_flags_of vs =
    let v : ℕ → Bool = λ k. is_set (get_or vs k 0) in
    record { acquired = v 0; time = v 2; word = v 3; latchup = v 4; lampon = v 5 }

unfoldable pub vis_flag_word : VisFlags → ℕ
vis_flag_word f = composed vis_flag_fields (vis_flag_values f)

unfoldable pub vis_flags_in : ℕ → VisFlags
vis_flags_in w = vis_flags_of (values_in vis_flag_fields w)

-- Fixed bits are those of no field, all 0, and bit 1 of a flag word, always set. One of them is wrong just where the word is not that
-- of what it says.
unfoldable pub lamp_shutter_right : ℕ → Bool
lamp_shutter_right w = eqb (lamp_shutter_word (lamp_shutter_in w)) w

unfoldable pub sine_right : ℕ → Bool
sine_right w = eqb (sine_word (sine_in w)) w

unfoldable pub ir_flags_right : ℕ → Bool
ir_flags_right w = eqb (ir_flag_word (ir_flags_in w)) w

unfoldable pub vis_flags_right : ℕ → Bool
vis_flags_right w = eqb (vis_flag_word (vis_flags_in w)) w
