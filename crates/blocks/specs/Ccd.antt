-- Document 01, "Blocks": the CCD block.
-- Assumes nothing.
use Rattle.std.specs.Prelude.{ℕ, Bool, cond, not, List, [], ◌∷◌, ◌++◌, eqb, leb, length, get_or, take, Result, Ok, Err}
use Rattle.std.specs.Result.{result_map_both}
use Rattle.words.specs.Fields.{on, joined}
use Rattle.words.specs.Kinds as kind
use Rattle.words.specs.Kinds.{allowed, greatest}
use Rattle.head.specs.declared.state.Flags.{Flags}
use Rattle.head.specs.declared.state.Head.{Head}
use Rattle.status.specs.Status.{is_set, sine_word, sine_in, sine_right, vis_flag_word, vis_flags_in, vis_flags_right}
use Rattle.blocks.specs.declared.refusal.Refusal.{Refusal}
use Rattle.blocks.specs.declared.refusal.Refusal.TheVariants.{Length, FixedBit, OutOfRange}
use Rattle.blocks.specs.declared.ccd.CcdBits.{CcdBits}
use Rattle.blocks.specs.declared.ccd.Window.{Window}
use Rattle.blocks.specs.declared.ccd.CcdMeaning.{CcdMeaning}
use Rattle.blocks.specs.declared.ccd.CcdBlock.{CcdBlock}

abbrev pub ccd_words : ℕ
ccd_words = 25

abbrev pub ccd_readings : ℕ
ccd_readings = 16

-- What the block shows of a state, the five flags, whether an acquisition ended and the caller's bits. The sine register has the
-- sine word's form.
unfoldable pub ccd_shown : Head → Flags → Bool → CcdBits → CcdMeaning
ccd_shown s f acquired b =
    let r = s.settings in
    record {
      window = record { x1 = r.x1; y1 = r.y1; x2 = r.x2; y2 = r.y2 };
      delay = r.ccddelay;
      expo = r.ccdexpo;
      sine = sine_in r.sine;
      cosine = r.cosine;
      flags =
          record {
            acquired = acquired;
            time = f.vistime;
            word = f.visword;
            latchup = b.latchup;
            lampon = is_set (on r.ccdlamp);
          };
    }

-- X1, Y1, X2, Y2, delay, expo, sine, cosine, flags.
unfoldable pub ccd_status : CcdMeaning → List ℕ
ccd_status m =
    m.window.x1
    ∷ m.window.y1
    ∷ m.window.x2
    ∷ m.window.y2
    ∷ m.delay
    ∷ m.expo
    ∷ sine_word m.sine
    ∷ m.cosine
    ∷ vis_flag_word m.flags
    ∷ []

-- The block: 16 readings from the caller, then the status words.
unfoldable pub ccd_block_of : Head → Flags → Bool → List ℕ → CcdBits → List ℕ
ccd_block_of s f acquired readings b = readings ++ ccd_status (ccd_shown s f acquired b)

unfoldable pub cosine_right : ℕ → Bool
cosine_right c = leb c (joined (greatest kind.cos_m) (greatest kind.cos_l))

-- What right status words say.
unfoldable pub ccd_said : Window → ℕ → ℕ → ℕ → ℕ → ℕ → CcdMeaning
ccd_said window delay expo sine cosine flags =
    record {
      window = window;
      delay = delay;
      expo = expo;
      sine = sine_in sine;
      cosine = cosine;
      flags = vis_flags_in flags;
    }

-- Word by word, the first faulty one decides: 13 a value out of range, 12 a fixed bit is wrong. What is
-- decided is the answer, its number or its place. The window first.
abbrev pub window_decided : {A : Type 0} → (Refusal → A) → A → Window → A
window_decided refused right window =
    cond (not (allowed kind.win_x1 window.x1)) (refused (OutOfRange 16))
    (cond (not (allowed kind.win_y1 window.y1)) (refused (OutOfRange 17))
    (cond (not (allowed kind.win_x2 window.x2)) (refused (OutOfRange 18))
    (cond (not (allowed kind.win_y2 window.y2)) (refused (OutOfRange 19)) right)))

abbrev pub rest_decided : {A : Type 0} → (Refusal → A) → A → ℕ → ℕ → ℕ → ℕ → ℕ → A
rest_decided refused right delay expo sine cosine flags =
    cond (not (allowed kind.ccd_delay delay)) (refused (OutOfRange 20))
    (cond (not (allowed kind.ccd_expo expo)) (refused (OutOfRange 21))
    (cond (not (sine_right sine)) (refused (FixedBit 22))
    (cond (not (cosine_right cosine)) (refused (OutOfRange 23))
    (cond (not (vis_flags_right flags)) (refused (FixedBit 24)) right))))

unfoldable pub ccd_rest_judged : Window → ℕ → ℕ → ℕ → ℕ → ℕ → Result CcdMeaning Refusal
ccd_rest_judged window delay expo sine cosine flags =
    rest_decided Err (Ok (ccd_said window delay expo sine cosine flags)) delay expo sine cosine flags

unfoldable pub ccd_judged : Window → ℕ → ℕ → ℕ → ℕ → ℕ → Result CcdMeaning Refusal
ccd_judged window delay expo sine cosine flags =
    window_decided Err (ccd_rest_judged window delay expo sine cosine flags) window

-- 11 where there are not 25 words, before all else.
unfoldable pub ccd_answer_of : List ℕ → Result CcdMeaning Refusal
ccd_answer_of ws =
    let w : ℕ → ℕ = λ k. get_or ws k 0 in
    cond (not (eqb (length ws) ccd_words)) (Err Length)
    (ccd_judged (record { x1 = w 16; y1 = w 17; x2 = w 18; y2 = w 19 }) (w 20) (w 21) (w 22) (w 23) (w 24))

-- By number and place: 11 at 0 where there are not 25 words, else 12 or 13 at the first faulty word, 0 at 0 where the block is read.
unfoldable pub ccd_told : (Refusal → ℕ) → List ℕ → ℕ
ccd_told told ws =
    let w : ℕ → ℕ = λ k. get_or ws k 0 in
    cond (not (eqb (length ws) ccd_words)) (told Length)
    (window_decided told (rest_decided told 0 (w 20) (w 21) (w 22) (w 23) (w 24)) (record { x1 = w 16; y1 = w 17; x2 = w 18; y2 = w 19 }))

-- A block that is read: its readings and what it says.
abbrev pub ccd_block : List ℕ → CcdMeaning → CcdBlock
ccd_block readings m = record { readings = readings; meaning = m }

-- The readings go with what the status words say; a refused block gives none.
unfoldable pub ccd_read_of : List ℕ → Result CcdBlock Refusal
ccd_read_of ws = result_map_both (ccd_block (take ccd_readings ws)) (λ r. r) (ccd_answer_of ws)
