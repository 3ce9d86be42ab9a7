-- Document 01, "The head": whether the head is busy, for how many ticks yet where no word comes, and whether anything moves. What asks
-- for these asks here, and not how the state counts them.
-- Assumes nothing.
use Rattle.std.specs.Prelude.{ℕ, max, Bool, ◌&&◌, eqb, ltb}
use Rattle.head.specs.declared.state.Head.{Head}

unfoldable pub busy_ticks : Head → ℕ
busy_ticks s = s.work.busy

unfoldable pub is_busy : Head → Bool
unfolding busy_ticks
is_busy s = ltb 0 (busy_ticks s)

-- Mirror and cover at rest: both motions are 0.
unfoldable pub at_rest : Head → Bool
at_rest s = eqb s.motion.mirror 0 && eqb s.motion.cover 0

-- For how many ticks yet the head is busy or something moves, where no word comes.
unfoldable pub rest_ticks : Head → ℕ
unfolding busy_ticks
rest_ticks s = max (busy_ticks s) (max s.motion.mirror s.motion.cover)
