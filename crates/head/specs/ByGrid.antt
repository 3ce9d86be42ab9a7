-- The answer to a word of a known kind with allowed data, and to any other word, as the code finds them: through the phase and
-- the grid. That they are `answer_of` is a law, so a reader need not believe this file.
-- Assumes nothing.
use Rattle.std.specs.Prelude.{ℕ, Err, cond, eqb}
use Rattle.words.specs.declared.DecodeError.{DecodeError}
use Rattle.head.specs.State.{none_begun}
use Rattle.head.specs.Busy.{is_busy}
use Rattle.head.specs.Grid.{busy, phase_of, applies}
use Rattle.head.specs.Flags.{time_both, time_ir, scanned}
use Rattle.head.specs.Apply.{after, act_of}
use Rattle.head.specs.Word.{ignored, out_of_turn, on_decoded}
use Rattle.head.specs.declared.state.Head.{Head}
use Rattle.head.specs.declared.word.Cause.TheVariants.{Busy, CoverMoving, Turn}
use Rattle.head.specs.declared.word.Outcome.TheVariants.{Taken}
use Rattle.head.specs.declared.word.Answered.{Answered}

-- A word that the grid ignores: busy, or the cover moves.
unfoldable pub waiting : Head → ℕ → Answered
waiting s p =
    cond (eqb p busy) (ignored s (time_both s.flags) s.begun Busy) (ignored s (time_ir s.flags) s.begun CoverMoving)

unfoldable pub by_grid : Head → ℕ → ℕ → Answered
by_grid s k b =
    cond (applies (phase_of s) k)
    (cond (out_of_turn s.begun.count k) (ignored s (scanned s.flags) none_begun Turn)
    (record { head = after s k b; outcome = Taken (act_of k b) }))
    (waiting s (phase_of s))

unfoldable pub by_finding : Head → DecodeError → Answered
by_finding s e = cond (is_busy s) (ignored s (time_both s.flags) s.begun Busy) (on_decoded s (Err e))
