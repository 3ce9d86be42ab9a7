-- Document 01, "The head": a tick.
-- Assumes nothing.
use Rattle.std.specs.Prelude.{ℕ, zero, suc, ◌-◌, cond, eqb}
use Rattle.head.specs.Range.{in_range}
use Rattle.head.specs.State.{no_flags, no_task, acquisition}
use Rattle.head.specs.Flags.{shown}
use Rattle.head.specs.declared.state.FlagBits.{FlagBits}
use Rattle.head.specs.declared.state.Work.{Work}
use Rattle.head.specs.declared.state.Task.{Task}
use Rattle.head.specs.declared.state.Task.TheVariants.{Idle, Acquisition, Housekeeping}
use Rattle.head.specs.declared.state.Motion.{Motion}
use Rattle.head.specs.declared.state.Head.{Head}
use Rattle.head.specs.declared.tick.Due.TheVariants.{Nothing, Blocks, Refused}
use Rattle.head.specs.declared.tick.Ticked.{Ticked}

-- Motion falls one a tick, busy or not.
abbrev pub motion_down : Motion → Motion
motion_down m = record { mirror = m.mirror - 1; cover = m.cover - 1 }

abbrev pub moved : Head → FlagBits → Work → Head
moved s f w =
    record { settings = s.settings; latches = s.latches; flags = f; work = w; motion = motion_down s.motion; begun = s.begun }

-- The task that a number in a state stands for.
unfoldable pub task_of : ℕ → Task
task_of n = cond (eqb n no_task) Idle (cond (eqb n acquisition) Acquisition Housekeeping)

-- Busy falls by one as each tick passes. When it reaches 0 this way both blocks are due; they show the five error flags as they
-- stood, and then all five are cleared.
unfoldable pub passed : Head → Ticked
passed s =
    cond (eqb s.work.busy 1)
    (record {
      head = moved s no_flags (record { task = no_task; busy = 0 });
      due = Blocks (task_of s.work.task) (shown s.flags);
    })
    (record {
      head = moved s s.flags (record { task = s.work.task; busy = s.work.busy - 1 });
      due = Nothing;
    })

-- A tick on a state outside its ranges gives 21.
unfoldable pub tick_of : Head → Ticked
tick_of s = cond (in_range s) (passed s) (record { head = s; due = Refused })

-- The state after n ticks.
unfoldable pub ticks_of : ℕ → Head → Head
ticks_of zero s = s
ticks_of (suc n) s = ticks_of n (tick_of s).head
