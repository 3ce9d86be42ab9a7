-- Document 01, "The head": the three phases, and which kinds of word are applied in each.
-- Assumes nothing.
use Rattle.std.specs.Prelude.{ℕ, Bool, true, cond, not, ◌&&◌, eqb, ltb}
use Rattle.words.specs.Kinds as kind
use Rattle.head.specs.Busy.{is_busy}
use Rattle.head.specs.declared.state.Head.{Head}

abbrev pub idle : ℕ
idle = 0

-- Idle with the cover moving.
abbrev pub moving : ℕ
moving = 1

abbrev pub busy : ℕ
busy = 2

unfoldable pub phase_of : Head → ℕ
phase_of s = cond (is_busy s) busy (cond (ltb 0 s.motion.cover) moving idle)

-- Idle: every kind. Idle with the cover moving: every kind but COVER. Busy: STOP alone. There are 3 phases and 28 kinds.
unfoldable pub applies : ℕ → ℕ → Bool
applies p k =
    ltb p 3 && ltb k 28 && cond (eqb p busy) (eqb k kind.stop) (cond (eqb p moving) (not (eqb k kind.cover)) true)
