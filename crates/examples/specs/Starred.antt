-- Document 01, "Examples": the starred ones, and the figures of document 02's request P5. A row for each result: what the definitions
-- give, and what the paper says. Words are in hexadecimal, all else in decimal.
-- Assumes nothing.
use Rattle.std.specs.Prelude.{ℕ, Bool, true, false, ◌&&◌, List, [], ◌∷◌, ◌++◌, eqb, length, get_or, replicate}
use Rattle.words.specs.Codec.{decode_of, decoded_number}
use Rattle.head.specs.Limits.{length_of}
use Rattle.head.specs.State.{power_on}
use Rattle.head.specs.Word.{answer_of}
use Rattle.head.specs.Numbers.{outcome_number}
use Rattle.head.specs.Tick.{tick_of, ticks_of}
use Rattle.head.specs.declared.state.Head.{Head}
use Rattle.head.specs.declared.tick.Ticked.{Ticked}
use Rattle.plan.specs.Stored.{plan_of}
use Rattle.schedule.specs.Schedule.{Schedule}
use Rattle.schedule.specs.Translate.{schedule_of, translate_of, translated_number, tick_list, word_list}
use Rattle.blocks.specs.Ir.{ir_words, ir_readings}
use Rattle.blocks.specs.Ccd.{ccd_words, ccd_readings}
use Rattle.blocks.specs.declared.ir.IrBits.{IrBits}
use Rattle.blocks.specs.declared.ccd.CcdBits.{CcdBits}
use Rattle.due.specs.Due.{ir_due_after, ccd_due_after}
use Rattle.pixels.specs.Map.{pixels}
use Rattle.pixels.specs.Readout.{readout_time}

pub record Row : Type 0 where
  pub got : ℕ
  pub said : ℕ

abbrev pub ◌gives◌ : ℕ → ℕ → Row
a gives b = record { got = a; said = b }

infixl 15 ◌gives◌
-- Every row's two sides are the same number.
unfoldable pub hold : List Row → Bool
hold [] = true
hold (r ∷ rs) = eqb r.got r.said && hold rs

-- The head after words one after another, with no tick between them.
unfoldable pub after_words : Head → List ℕ → Head
after_words s [] = s
after_words s (w ∷ ws) = after_words (answer_of s w).head ws

-- The number of the head's answer to a word at power-on: 0 is taken, a cover move gives its word.
unfoldable pub answered : ℕ → ℕ
answered w = outcome_number (answer_of power_on w).outcome

unfoldable pub from_power_on : List Row
unfolding after_words
from_power_on =
    ((after_words power_on (0xD009 ∷ [])).settings.vdetcom gives 2430)  -- D009 leaves VDETCOM at 2430
    ∷ ((after_words power_on (0xD009 ∷ 0x3088 ∷ [])).settings.vdetcom gives 2440)  -- then 3088 gives 2440
    ∷ (answered 0x1804 gives 24)  -- 1804 is 24
    ∷ (answered 0x1805 gives 0)  -- 1805 taken
    ∷ (answered 0x1051 gives 0x1051)  -- 1051 taken
    ∷ (answered 0x1052 gives 24)  -- 1052 is 24
    ∷ (answered 0xA9FF gives 0)  -- A9FF taken
    ∷ (answered 0x3800 gives 23)  -- 3800 is 23
    ∷ (decoded_number (decode_of 0x3800) gives 23)
    ∷ (answered 0x2010 gives 0)  -- 2010 starts a set
    ∷ ((after_words power_on (0x2010 ∷ [])).begun.count gives 1)
    ∷ ((after_words power_on (0x2010 ∷ [])).begun.sinm gives 16)  -- with minus zero
    ∷ (length_of power_on.settings gives 158)  -- power-on length 158
    ∷ (length_of (after_words power_on (0xF00A ∷ 0x080A ∷ [])).settings gives 181)  -- with IR delay 10 and expo 10, 181
    ∷ []

-- HK from power-on, and the tick that ends it.
unfoldable pub housekept : Ticked
unfolding after_words
housekept = tick_of (ticks_of 2 (after_words power_on (0x4000 ∷ [])))

-- The cover shut, no latch-up.
abbrev pub cover_shut : IrBits
cover_shut = record { latchup = false; notclosed = false; notopen = true }

abbrev pub no_latchup : CcdBits
no_latchup = record { latchup = false }

-- The two blocks that are then due, all readings 0.
unfoldable pub ir_housekept : List ℕ
ir_housekept =
    ir_due_after housekept.head housekept.due (replicate ir_readings 0) cover_shut (replicate ir_words 0) (replicate ccd_words 0)

unfoldable pub ccd_housekept : List ℕ
ccd_housekept =
    ccd_due_after housekept.head housekept.due (replicate ccd_readings 0) no_latchup (replicate ir_words 0) (replicate ccd_words 0)

unfoldable pub blocks_housekept : List Row
blocks_housekept =
    (get_or ir_housekept 18 0 gives 0x0606)  -- lamp and shutter
    ∷ (get_or ir_housekept 19 0 gives 0x4002)  -- IR flags
    ∷ (get_or ccd_housekept 24 0 gives 0x0002)  -- VIS flags
    ∷ []

-- A plan translated from power-on: its timed words, and its end.
abbrev pub scheduled : List ℕ → Schedule
scheduled bs = schedule_of power_on (plan_of bs)

-- 01 00 00 is a plan with no orders.
abbrev pub empty_plan : List ℕ
empty_plan = 0x01 ∷ 0x00 ∷ 0x00 ∷ []

-- Mirror, exposure, housekeeping.
abbrev pub listed_plan : List ℕ
listed_plan =
    0x01 ∷ 0x00 ∷ 0x0A ∷ 0x05 ∷ 0x0C ∷ 0xFF ∷ 0x00 ∷ 0x0F ∷ 0xF8 ∷ 0x01 ∷ 0x0F ∷ 0x01 ∷ 0x10 ∷ []

abbrev pub tick_at : ℕ → ℕ
tick_at i = get_or (tick_list (scheduled listed_plan)) i 0

abbrev pub word_at : ℕ → ℕ
word_at i = get_or (word_list (scheduled listed_plan)) i 0

unfoldable pub plans_listed : List Row
plans_listed =
    (translated_number (translate_of power_on empty_plan 0 0) gives 0)  -- 01 00 00 gives 0 words, end 0
    ∷ (length (scheduled empty_plan).list gives 0)
    ∷ ((scheduled empty_plan).end gives 0)
    ∷ (translated_number (translate_of power_on listed_plan 256 256) gives 0)  -- the listing, its ticks by request P3
    ∷ (length (scheduled listed_plan).list gives 6)
    ∷ (tick_at 0 gives 0)
    ∷ (word_at 0 gives 0x2011)
    ∷ (tick_at 1 gives 1)
    ∷ (word_at 1 gives 0xA000)
    ∷ (tick_at 2 gives 2)
    ∷ (word_at 2 gives 0x600F)
    ∷ (tick_at 3 gives 3)
    ∷ (word_at 3 gives 0xE0F8)
    ∷ (tick_at 4 gives 69)
    ∷ (word_at 4 gives 0x8000)
    ∷ (tick_at 5 gives 227)
    ∷ (word_at 5 gives 0x4000)
    ∷ ((scheduled listed_plan).end gives 230)
    ∷ []

-- Document 02, request P5: the time of a readout, for so many lighted pixels and for all.
unfoldable pub readouts : List Row
readouts =
    (readout_time 17280 gives 284580)
    ∷ (pixels gives 118260)
    ∷ (readout_time pixels gives 1193400)
    ∷ []

-- The whole table.
unfoldable pub table : List Row
unfolding from_power_on blocks_housekept plans_listed readouts
table = from_power_on ++ (blocks_housekept ++ (plans_listed ++ readouts))
