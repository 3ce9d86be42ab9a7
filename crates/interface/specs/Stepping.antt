-- What the exported functions over a state answer, and the array that they leave. An array that is not well formed is refused with 21
-- and left as it was given.
-- Assumes nothing.
use Rattle.std.specs.Prelude.{ℕ, ◌+◌, ◌*◌, cond, List, eqb, length}
use Rattle.head.specs.State.{power_on}
use Rattle.head.specs.Word.{answer_of}
use Rattle.head.specs.Tick.{tick_of}
use Rattle.head.specs.Numbers.{cause_number, outcome_number, due_number}
use Rattle.head.specs.List.{numbers_listed, list_of, outcomes_after, list_answer_number}
use Rattle.head.specs.declared.state.Flags.{Flags}
use Rattle.head.specs.declared.word.Cause.TheVariants.{State}
use Rattle.head.specs.declared.tick.Due.{Due}
use Rattle.head.specs.declared.tick.Due.TheVariants.{Nothing, Blocks, Refused}
use Rattle.head.specs.Row.{places, numbers_of, state_of}
use Rattle.interface.specs.State.{bit_of, well_formed, valid}

-- Document 01's number for a state outside its ranges.
abbrev pub state_refused : ℕ
state_refused = cause_number State

-- The power-on state is written to an array of 35 places.
unfoldable pub power_on_answer : List ℕ → ℕ
power_on_answer l = cond (eqb (length l) places) 0 state_refused

unfoldable pub power_on_state : List ℕ → List ℕ
power_on_state l = cond (eqb (length l) places) (numbers_of power_on) l

unfoldable pub range_answer : List ℕ → ℕ
range_answer l = cond (valid l) 0 state_refused

-- A word's answer is the number of its outcome.
unfoldable pub word_answer : List ℕ → ℕ → ℕ
word_answer l w = cond (well_formed l) (outcome_number (answer_of (state_of l) w).outcome) state_refused

unfoldable pub word_state : List ℕ → ℕ → List ℕ
word_state l w = cond (well_formed l) (numbers_of (answer_of (state_of l) w).head) l

-- The five flags as bits: IR time, IR word, scan, VIS time, VIS word.
unfoldable pub flag_bits : Flags → ℕ
flag_bits f =
    bit_of f.irtime
    + 2 * bit_of f.irword
    + 4 * bit_of f.scan
    + 8 * bit_of f.vistime
    + 16 * bit_of f.visword

-- The tick's number in bits 0-7; where blocks are due, the flags that they show from bit 8 on.
unfoldable pub due_answer : Due → ℕ
due_answer Nothing = due_number Nothing
due_answer (Blocks t f) = due_number (Blocks t f) + 256 * flag_bits f
due_answer Refused = due_number Refused

unfoldable pub tick_answer : List ℕ → ℕ
tick_answer l = cond (well_formed l) (due_answer (tick_of (state_of l)).due) state_refused

unfoldable pub tick_state : List ℕ → List ℕ
tick_state l = cond (well_formed l) (numbers_of (tick_of (state_of l)).head) l

-- A list of timed words: its answer's number, the array, and the outcomes.
unfoldable pub list_answer : List ℕ → List ℕ → List ℕ → ℕ → ℕ
list_answer l ws ts room = cond (well_formed l) (list_answer_number (list_of (state_of l) ws ts room).answer) state_refused

unfoldable pub list_state : List ℕ → List ℕ → List ℕ → ℕ → List ℕ
list_state l ws ts room = cond (well_formed l) (numbers_of (list_of (state_of l) ws ts room).head) l

unfoldable pub list_outcomes : List ℕ → List ℕ → List ℕ → List ℕ → List ℕ
list_outcomes l ws ts old =
    cond (well_formed l) (outcomes_after (list_of (state_of l) ws ts (length old)).answer (numbers_listed ws ts (state_of l)) old) old
