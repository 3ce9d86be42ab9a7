-- The numbers of the head's answers. 21-25 are the causes of document 01's table. What a taken word gives is request P1's of document
-- 02: 0, but 1 for an exposure, 2 for housekeeping, the word itself for a cover move.
-- Assumes nothing.
use Rattle.std.specs.Prelude.{ℕ, ◌+◌, Bool, cond, not, ◌&&◌, eqb, leb, ltb}
use Rattle.words.specs.Kinds as kind
use Rattle.words.specs.Kinds.{identifier, bits_of, allowed, kind_of, kinds}
use Rattle.head.specs.State.{no_task, acquisition, housekeeping}
use Rattle.head.specs.Range.{in_range}
use Rattle.head.specs.Busy.{busy_ticks, is_busy}
use Rattle.head.specs.Word.{out_of_turn, stop_word}
use Rattle.head.specs.Tick.{task_of}
use Rattle.head.specs.declared.state.Task.{Task}
use Rattle.head.specs.declared.state.Task.TheVariants.{Idle, Acquisition, Housekeeping}
use Rattle.head.specs.declared.state.Head.{Head}
use Rattle.head.specs.declared.word.Act.{Act}
use Rattle.head.specs.declared.word.Act.TheVariants.{None, Exposure, Request, Cover}
use Rattle.head.specs.declared.word.Cause.{Cause}
use Rattle.head.specs.declared.word.Cause.TheVariants.{State, Busy, CoverMoving, UnknownWord, Range, Turn}
use Rattle.head.specs.declared.word.Outcome.{Outcome}
use Rattle.head.specs.declared.word.Outcome.TheVariants.{Taken, Ignored}
use Rattle.head.specs.declared.tick.Due.{Due}
use Rattle.head.specs.declared.tick.Due.TheVariants.{Nothing, Blocks, Refused}

-- COVER's word is 0x1000 above its data bits.
unfoldable pub act_number : Act → ℕ
act_number None = 0
act_number Exposure = 1
act_number Request = 2
act_number (Cover b) = 0x1000 + b

unfoldable pub cause_number : Cause → ℕ
cause_number State = 21
cause_number Busy = 22
cause_number CoverMoving = 22
cause_number UnknownWord = 23
cause_number Range = 24
cause_number Turn = 25

unfoldable pub outcome_number : Outcome → ℕ
outcome_number (Taken a) = act_number a
outcome_number (Ignored c) = cause_number c

-- The number of an outcome is a cause's: no taken word has it, since COVER's words begin at 0x1000.
unfoldable pub is_cause : ℕ → Bool
is_cause n = leb 21 n && leb n 25

-- The tasks, as a state holds them.
unfoldable pub task_number : Task → ℕ
task_number Idle = no_task
task_number Acquisition = acquisition
task_number Housekeeping = housekeeping

-- A tick: 0 where nothing is due, the task that ended where blocks are due, 21 where the state is out of range.
unfoldable pub due_number : Due → ℕ
due_number Nothing = 0
due_number (Blocks t f) = task_number t
due_number Refused = 21

-- The same numbers from the state and the word itself: what a taken word w gives, and the answer in the order of the checks.
unfoldable pub taken_number : ℕ → ℕ
taken_number w =
    let k = kind_of (identifier w) in
    cond (eqb k kind.start) 1 (cond (eqb k kind.hk) 2 (cond (eqb k kind.cover) w 0))

unfoldable pub answer_number : Head → ℕ → ℕ
answer_number s w =
    let k = kind_of (identifier w) in
    cond (not (in_range s)) 21
    (cond (is_busy s && not (eqb w stop_word)) 22
    (cond (not (ltb k kinds)) 23
    (cond (not (allowed k (bits_of w))) 24
    (cond (eqb k kind.cover && ltb 0 s.motion.cover) 22
    (cond (out_of_turn s.begun.count k) 25 (taken_number w))))))

unfoldable pub tick_number : Head → ℕ
tick_number s = cond (not (in_range s)) 21 (cond (eqb (busy_ticks s) 1) (task_number (task_of s.work.task)) 0)
