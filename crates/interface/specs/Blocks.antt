-- What the exported writers and readers of the two blocks answer, and the arrays that they leave.
-- Assumes nothing.
use Rattle.std.specs.Prelude.{ℕ, ◌+◌, ◌*◌, ◌/◌, ◌%◌, Bool, cond, List, [], ◌∷◌, ◌++◌, eqb, length, take, Result, Ok, Err}
use Rattle.head.specs.declared.state.Flags.{Flags}
use Rattle.status.specs.declared.IrFlags.{IrFlags}
use Rattle.status.specs.declared.VisFlags.{VisFlags}
use Rattle.blocks.specs.Numbers.{refusal_number, refusal_place}
use Rattle.blocks.specs.Written.{written_if}
use Rattle.blocks.specs.Ir.{ir_readings, ir_block_of, ir_answer_of}
use Rattle.blocks.specs.Ccd.{ccd_readings, ccd_block_of, ccd_answer_of}
use Rattle.blocks.specs.declared.refusal.Refusal.{Refusal}
use Rattle.blocks.specs.declared.refusal.Refusal.TheVariants.{Length}
use Rattle.blocks.specs.declared.ir.IrBits.{IrBits}
use Rattle.blocks.specs.declared.ir.IrMeaning.{IrMeaning}
use Rattle.blocks.specs.declared.ccd.CcdBits.{CcdBits}
use Rattle.blocks.specs.declared.ccd.CcdMeaning.{CcdMeaning}
use Rattle.head.specs.Row.{state_of}
use Rattle.interface.specs.State.{bit_of, valid}

-- A bit is read off a number as its lowest; bits above those named here say nothing.
abbrev pub odd : ℕ → Bool
odd n = eqb (n % 2) 1

-- The five flags to show: bits 0-4, in the order that a tick's answer has.
abbrev pub flags_in : ℕ → Flags
flags_in n =
    record { irtime = odd n; irword = odd (n / 2); scan = odd (n / 4); vistime = odd (n / 8); visword = odd (n / 16) }

-- The caller's bits: latch-up, not closed, not open.
abbrev pub ir_bits_in : ℕ → IrBits
ir_bits_in n = record { latchup = odd n; notclosed = odd (n / 2); notopen = odd (n / 4) }

abbrev pub ccd_bits_in : ℕ → CcdBits
ccd_bits_in n = record { latchup = odd n }

-- 11 where there are not so many readings or the buffer has not the block's n words, then 21.
unfoldable pub block_written : ℕ → ℕ → List ℕ → List ℕ → List ℕ → Result (Unit {0}) Refusal
block_written n count l readings buffer =
    cond (eqb (length readings) count)
    (written_if n (valid l) buffer)
    (Err Length)

-- An acquisition ended where ended is 1.
unfoldable pub ir_block_for : List ℕ → ℕ → ℕ → ℕ → List ℕ → List ℕ
ir_block_for l flags ended bits readings =
    ir_block_of (state_of l) (flags_in flags) (eqb ended 1) readings (ir_bits_in bits)

unfoldable pub ccd_block_for : List ℕ → ℕ → ℕ → ℕ → List ℕ → List ℕ
ccd_block_for l flags ended bits readings =
    ccd_block_of (state_of l) (flags_in flags) (eqb ended 1) readings (ccd_bits_in bits)

-- What a block says, as numbers: after the readings the status, and then the flags as bits.
abbrev pub ir_status_numbers : IrMeaning → List ℕ
ir_status_numbers m =
    m.mode
    ∷ m.delay
    ∷ m.expo
    ∷ m.lampshutter.lampcurrent
    ∷ bit_of m.lampshutter.lampon
    ∷ m.lampshutter.shuttercurrent
    ∷ bit_of m.lampshutter.closed
    ∷ []

abbrev pub ir_flag_numbers : IrFlags → List ℕ
ir_flag_numbers f =
    bit_of f.acquired
    ∷ bit_of f.time
    ∷ bit_of f.word
    ∷ bit_of f.scan
    ∷ bit_of f.detector
    ∷ bit_of f.latchup
    ∷ bit_of f.annealing
    ∷ bit_of f.opens
    ∷ bit_of f.notclosed
    ∷ bit_of f.notopen
    ∷ []

abbrev pub ccd_status_numbers : CcdMeaning → List ℕ
ccd_status_numbers m =
    m.window.x1
    ∷ m.window.y1
    ∷ m.window.x2
    ∷ m.window.y2
    ∷ m.delay
    ∷ m.expo
    ∷ m.sine.magnitude
    ∷ bit_of m.sine.negative
    ∷ m.cosine
    ∷ []

abbrev pub ccd_flag_numbers : VisFlags → List ℕ
ccd_flag_numbers f =
    bit_of f.acquired ∷ bit_of f.time ∷ bit_of f.word ∷ bit_of f.latchup ∷ bit_of f.lampon ∷ []

unfoldable pub ir_said_numbers : List ℕ → IrMeaning → List ℕ
ir_said_numbers readings m = readings ++ (ir_status_numbers m ++ ir_flag_numbers m.flags)

unfoldable pub ccd_said_numbers : List ℕ → CcdMeaning → List ℕ
ccd_said_numbers readings m = readings ++ (ccd_status_numbers m ++ ccd_flag_numbers m.flags)

-- How many numbers a reader gives.
abbrev pub ir_numbers : ℕ
ir_numbers = 31

abbrev pub ccd_numbers : ℕ
ccd_numbers = 30

-- The refusal's number in bits 0-7, its place above.
unfoldable pub refusal_answer : Refusal → ℕ
refusal_answer r = refusal_number r + 0x100 * refusal_place r

unfoldable pub ir_answer : Result IrMeaning Refusal → ℕ
ir_answer (Ok m) = 0
ir_answer (Err r) = refusal_answer r

unfoldable pub ccd_answer : Result CcdMeaning Refusal → ℕ
ccd_answer (Ok m) = 0
ccd_answer (Err r) = refusal_answer r

-- A refusal leaves the numbers as they were.
unfoldable pub ir_numbers_after : Result IrMeaning Refusal → List ℕ → List ℕ → List ℕ
ir_numbers_after (Ok m) block old = ir_said_numbers (take ir_readings block) m
ir_numbers_after (Err r) block old = old

unfoldable pub ccd_numbers_after : Result CcdMeaning Refusal → List ℕ → List ℕ → List ℕ
ccd_numbers_after (Ok m) block old = ccd_said_numbers (take ccd_readings block) m
ccd_numbers_after (Err r) block old = old

-- 11 where the array for the numbers has not their length; else the block decides.
unfoldable pub ir_read_for : List ℕ → List ℕ → Result IrMeaning Refusal
ir_read_for block old = cond (eqb (length old) ir_numbers) (ir_answer_of block) (Err Length)

unfoldable pub ccd_read_for : List ℕ → List ℕ → Result CcdMeaning Refusal
ccd_read_for block old = cond (eqb (length old) ccd_numbers) (ccd_answer_of block) (Err Length)

-- The place of a refused block's word is one of the block's 25 at most.
abbrev pub most_place : ℕ
most_place = 24
