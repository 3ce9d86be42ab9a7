-- Document 02, request P6: what the CCD operator observes of a run. The block's sine and cosine, and its readings, are not his.
-- Assumes nothing.
use Rattle.std.specs.Prelude.{ℕ, Option, None, Some, Result, List, [], ◌∷◌}
use Rattle.words.specs.Kinds.{ccd}
use Rattle.head.specs.Tick.{tick_of}
use Rattle.head.specs.declared.state.Head.{Head}
use Rattle.head.specs.declared.word.Outcome.{Outcome}
use Rattle.head.specs.declared.tick.Due.{Due}
use Rattle.head.specs.declared.tick.Due.TheVariants as due
use Rattle.status.specs.Status.{vis_flag_word}
use Rattle.blocks.specs.Ccd.{ccd_shown}
use Rattle.blocks.specs.declared.ccd.CcdBits.{CcdBits}
use Rattle.due.specs.Due.{acquisition}
use Rattle.operators.specs.Passing.{passed_on}
use Rattle.operators.specs.declared.PassError.{PassError}
use Rattle.observation.specs.Run.{Given, nothing, by_ccd, by_infrared, by_controller, Moment, between, next, head_after}

-- The CCD registers: X1, Y1, X2, Y2, delay, expo, lamp.
unfoldable pub ccd_registers : Head → List ℕ
ccd_registers s =
    let r = s.settings in
    r.x1 ∷ r.y1 ∷ r.x2 ∷ r.y2 ∷ r.ccddelay ∷ r.ccdexpo ∷ r.ccdlamp ∷ []

-- What his own word is answered: a refusal, or the head's answer.
unfoldable pub answer_to : Head → Given → Option (Result Outcome PassError)
answer_to s nothing = None
answer_to s (by_ccd w) = Some (passed_on s ccd w).passing
answer_to s (by_infrared w) = None
answer_to s (by_controller w) = None

-- The VIS flag word of the CCD block, where a tick says that it is due; s is the head after the tick.
unfoldable pub flag_word_due : Head → Due → CcdBits → Option ℕ
flag_word_due s due.Nothing bits = None
flag_word_due s (due.Blocks ended flags) bits = Some (vis_flag_word (ccd_shown s flags (acquisition ended) bits).flags)
flag_word_due s due.Refused bits = None

-- One tick: the registers as it begins, the answer to his word, the registers between the word and the tick, and the flag word if a block
-- is due.
pub record Seen : Type 0 where
  pub before : List ℕ
  pub answer : Option (Result Outcome PassError)
  pub meanwhile : List ℕ
  pub flag_word : Option ℕ

unfoldable pub seen : Head → Moment → Seen
seen s m =
    let h = between s m.given in
    let t = tick_of h in
    record {
      before = ccd_registers s;
      answer = answer_to s m.given;
      meanwhile = ccd_registers h;
      flag_word = flag_word_due t.head t.due m.bits;
    }

unfoldable pub seen_from : Head → List Moment → List Seen
seen_from s [] = []
seen_from s (m ∷ ms) = seen s m ∷ seen_from (next s m) ms

-- All ticks of the run, and the registers at its end.
pub record Observation : Type 0 where
  pub ticks : List Seen
  pub end : List ℕ

unfoldable pub observed : Head → List Moment → Observation
observed s ms = record { ticks = seen_from s ms; end = ccd_registers (head_after s ms) }
