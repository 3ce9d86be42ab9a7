-- Document 02, request P6: which two runs the CCD operator cannot tell apart.
-- Assumes nothing.
use Rattle.std.specs.Prelude.{◌≡◌, Bool, true, List, [], ◌∷◌}
use Rattle.head.specs.Range.{in_range}
use Rattle.head.specs.Busy.{is_busy}
use Rattle.head.specs.declared.state.Head.{Head}
use Rattle.observation.specs.Run.{Given, nothing, by_ccd, by_infrared, by_controller, Moment, next, head_after}
use Rattle.observation.specs.Observation.{ccd_registers}

-- A run with its infrared words left out: the CCD operator's and the controller's words at their ticks, and the caller's VIS bits.
unfoldable pub not_infrared : Given → Given
not_infrared nothing = nothing
not_infrared (by_ccd w) = by_ccd w
not_infrared (by_infrared w) = nothing
not_infrared (by_controller w) = by_controller w

unfoldable pub without_infrared : List Moment → List Moment
without_infrared [] = []
without_infrared (m ∷ ms) = record { given = not_infrared m.given; bits = m.bits } ∷ without_infrared ms

-- Whether the head is busy as each tick begins.
unfoldable pub busy_from : Head → List Moment → List Bool
busy_from s [] = []
busy_from s (m ∷ ms) = is_busy s ∷ busy_from (next s m) ms

-- Two states in range, with equal CCD registers, VIS flags and running task; the same CCD words and controller words at the same ticks and
-- the same VIS bits, the infrared words being whatever they are; the same ticks busy, and busy at the end in both or neither.
pub record Alike (s t : Head) (ms ns : List Moment) : Type 0 where
  pub first_ranged : in_range s ≡ true
  pub second_ranged : in_range t ≡ true
  pub registers : ccd_registers s ≡ ccd_registers t
  pub vistime : s.flags.vistime ≡ t.flags.vistime
  pub visword : s.flags.visword ≡ t.flags.visword
  pub task : s.work.task ≡ t.work.task
  pub given : without_infrared ms ≡ without_infrared ns
  pub busy : busy_from s ms ≡ busy_from t ns
  pub ends : is_busy (head_after s ms) ≡ is_busy (head_after t ns)
