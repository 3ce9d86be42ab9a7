-- Document 01, "The head": many ticks at once, with no word between them.
-- Assumes nothing.
use Rattle.std.specs.Prelude.{ℕ, ◌-◌, Bool, cond, ◌&&◌, leb, ltb}
use Rattle.head.specs.State.{no_flags, no_task}
use Rattle.head.specs.declared.state.Motion.{Motion}
use Rattle.head.specs.declared.state.Work.{Work}
use Rattle.head.specs.declared.state.Head.{Head}

-- Busy reaches 0 within n ticks, so that blocks are due and the flags are cleared.
unfoldable pub ends_within : ℕ → ℕ → Bool
ends_within n busy = ltb 0 busy && leb busy n

unfoldable pub work_left : ℕ → Work → Work
work_left n w = cond (leb w.busy n) (record { task = no_task; busy = 0 }) (record { task = w.task; busy = w.busy - n })

abbrev pub motion_left : ℕ → Motion → Motion
motion_left n m = record { mirror = m.mirror - n; cover = m.cover - n }

-- The state n ticks later; `ticks_of n` for every state in range.
unfoldable pub elapsed : ℕ → Head → Head
elapsed n s =
    record {
      settings = s.settings;
      latches = s.latches;
      flags = cond (ends_within n s.work.busy) no_flags s.flags;
      work = work_left n s.work;
      motion = motion_left n s.motion;
      begun = s.begun;
    }
