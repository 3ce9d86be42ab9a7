-- Document 01, "Blocks": the IR block.
-- Assumes nothing.
use Rattle.std.specs.Prelude.{ℕ, Bool, cond, not, ◌&&◌, ◌||◌, List, [], ◌∷◌, ◌++◌, eqb, length, get_or, take, Result, Ok, Err}
use Rattle.std.specs.Result.{result_map_both}
use Rattle.words.specs.Fields.{on, current}
use Rattle.words.specs.Kinds as kind
use Rattle.words.specs.Kinds.{allowed}
use Rattle.head.specs.declared.state.Flags.{Flags}
use Rattle.head.specs.declared.state.Head.{Head}
use Rattle.status.specs.Status.{is_set, lamp_shutter_word, lamp_shutter_in, lamp_shutter_right, ir_flag_word, ir_flags_in, ir_flags_right}
use Rattle.blocks.specs.declared.refusal.Refusal.{Refusal}
use Rattle.blocks.specs.declared.refusal.Refusal.TheVariants.{Length, FixedBit, OutOfRange}
use Rattle.blocks.specs.declared.ir.IrBits.{IrBits}
use Rattle.blocks.specs.declared.ir.IrMeaning.{IrMeaning}
use Rattle.blocks.specs.declared.ir.IrBlock.{IrBlock}

abbrev pub ir_words : ℕ
ir_words = 20

abbrev pub ir_readings : ℕ
ir_readings = 14

-- Y1, Y2: 0, 269 full; 90, 179 reduced.
abbrev pub first_line : ℕ → ℕ
first_line mode = cond (eqb mode 0) 0 90

abbrev pub last_line : ℕ → ℕ
last_line mode = cond (eqb mode 0) 269 179

-- What the block shows of a state, the five flags, whether an acquisition ended and the caller's bits.
unfoldable pub ir_shown : Head → Flags → Bool → IrBits → IrMeaning
ir_shown s f acquired b =
    let r = s.settings in
    record {
      mode = r.mode;
      delay = r.irdelay;
      expo = r.irexpo;
      lampshutter =
          record {
            lampcurrent = current r.irlamp;
            lampon = is_set (on r.irlamp);
            shuttercurrent = current r.shutter;
            closed = is_set (on r.shutter);
          };
      flags =
          record {
            acquired = acquired;
            time = f.irtime;
            word = f.irword;
            scan = f.scan;
            detector = is_set r.detector;
            latchup = b.latchup;
            annealing = is_set (on r.annealing);
            opens = is_set r.direction;
            notclosed = b.notclosed;
            notopen = b.notopen;
          };
    }

-- Y1, Y2, delay, expo, lamp and shutter, flags.
unfoldable pub ir_status : IrMeaning → List ℕ
ir_status m =
    first_line m.mode
    ∷ last_line m.mode
    ∷ m.delay
    ∷ m.expo
    ∷ lamp_shutter_word m.lampshutter
    ∷ ir_flag_word m.flags
    ∷ []

-- The block: 14 readings from the caller, then the status words.
unfoldable pub ir_block_of : Head → Flags → Bool → List ℕ → IrBits → List ℕ
ir_block_of s f acquired readings b = readings ++ ir_status (ir_shown s f acquired b)

-- The pairs of lines that there are.
abbrev pub lines_right : ℕ → ℕ → Bool
lines_right y1 y2 = (eqb y1 0 && eqb y2 269) || (eqb y1 90 && eqb y2 179)

abbrev pub mode_of : ℕ → ℕ
mode_of y1 = cond (eqb y1 0) 0 1

-- What right status words say.
unfoldable pub ir_said : ℕ → ℕ → ℕ → ℕ → ℕ → IrMeaning
ir_said y1 delay expo lampshutter flags =
    record {
      mode = mode_of y1;
      delay = delay;
      expo = expo;
      lampshutter = lamp_shutter_in lampshutter;
      flags = ir_flags_in flags;
    }

-- Word by word, the first faulty one decides: 13 a value out of range, a wrong pair of lines told at Y2; 12 a fixed bit is wrong.
-- What is decided is the answer, its number or its place.
abbrev pub ir_decided : {A : Type 0} → (Refusal → A) → A → ℕ → ℕ → ℕ → ℕ → ℕ → ℕ → A
ir_decided refused right y1 y2 delay expo lampshutter flags =
    cond (not (lines_right y1 y2)) (refused (OutOfRange 15))
    (cond (not (allowed kind.ir_delay delay)) (refused (OutOfRange 16))
    (cond (not (allowed kind.ir_expo expo)) (refused (OutOfRange 17))
    (cond (not (lamp_shutter_right lampshutter)) (refused (FixedBit 18))
    (cond (not (ir_flags_right flags)) (refused (FixedBit 19)) right))))

unfoldable pub ir_judged : ℕ → ℕ → ℕ → ℕ → ℕ → ℕ → Result IrMeaning Refusal
ir_judged y1 y2 delay expo lampshutter flags =
    ir_decided Err (Ok (ir_said y1 delay expo lampshutter flags)) y1 y2 delay expo lampshutter flags

-- 11 where there are not 20 words, before all else.
unfoldable pub ir_answer_of : List ℕ → Result IrMeaning Refusal
ir_answer_of ws =
    let w : ℕ → ℕ = λ k. get_or ws k 0 in
    cond (not (eqb (length ws) ir_words)) (Err Length) (ir_judged (w 14) (w 15) (w 16) (w 17) (w 18) (w 19))

-- By number and place: 11 at 0 where there are not 20 words, else 12 or 13 at the first faulty word, 0 at 0 where the block is read.
unfoldable pub ir_told : (Refusal → ℕ) → List ℕ → ℕ
ir_told told ws =
    let w : ℕ → ℕ = λ k. get_or ws k 0 in
    cond (not (eqb (length ws) ir_words)) (told Length) (ir_decided told 0 (w 14) (w 15) (w 16) (w 17) (w 18) (w 19))

-- A block that is read: its readings and what it says.
abbrev pub ir_block : List ℕ → IrMeaning → IrBlock
ir_block readings m = record { readings = readings; meaning = m }

-- The readings go with what the status words say; a refused block gives none.
unfoldable pub ir_read_of : List ℕ → Result IrBlock Refusal
ir_read_of ws = result_map_both (ir_block (take ir_readings ws)) (λ r. r) (ir_answer_of ws)
