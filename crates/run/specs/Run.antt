-- Demand 3: at each tick before the plan's end the head gets the translated word of that tick, if there is one, and then the tick
-- passes. Each word or tick gets the state that came back last.
-- Assumes nothing.
use Rattle.std.specs.Prelude.{ℕ, zero, suc, ◌+◌, cond, List, [], ◌∷◌, ◌++◌, eqb, length, replicate}
use Rattle.std.proofs.Math.Option.{Option, none, some}
use Rattle.words.specs.Fields.{direction, wave, sensors, steps}
use Rattle.head.specs.Word.{answer_of}
use Rattle.head.specs.Tick.{tick_of}
use Rattle.head.specs.declared.state.Settings.{Settings}
use Rattle.head.specs.declared.state.Head.{Head}
use Rattle.head.specs.declared.word.Act.{Act}
use Rattle.head.specs.declared.word.Act.TheVariants.{None, Exposure, Request, Cover}
use Rattle.head.specs.declared.word.Outcome.{Outcome}
use Rattle.head.specs.declared.word.Outcome.TheVariants.{Taken, Ignored}
use Rattle.plan.specs.Reading.{Entry, exposure, request, cover_move}
use Rattle.schedule.specs.Schedule.{Timed}

-- The word that a list has for a tick.
unfoldable pub word_at : List Timed → ℕ → Option ℕ
word_at [] t = none
word_at (x ∷ xs) t = cond (eqb x.tick t) (some x.word) (word_at xs t)

-- The head before a tick passes, and the word that it gets then.
pub record Moment : Type 0 where
  pub head : Head
  pub given : Option ℕ

unfoldable pub answered : Head → Option ℕ → Head
answered s none = s
answered s (some w) = (answer_of s w).head

unfoldable pub next : Head → Option ℕ → Head
next s g = (tick_of (answered s g)).head

-- The moments of n ticks from tick t on, and the head after them.
unfoldable pub moments_of : ℕ → ℕ → List Timed → Head → List Moment
moments_of zero t l s = []
moments_of (suc n) t l s = record { head = s; given = word_at l t } ∷ moments_of n (t + 1) l (next s (word_at l t))

unfoldable pub head_after : ℕ → ℕ → List Timed → Head → Head
head_after zero t l s = s
head_after (suc n) t l s = head_after n (t + 1) l (next s (word_at l t))

-- The head's log: the acts other than "none", a cover move as its four fields, an exposure with the settings START found.
unfoldable pub entry_of : Settings → Act → List Entry
entry_of r None = []
entry_of r Exposure = exposure r ∷ []
entry_of r Request = request ∷ []
entry_of r (Cover b) = cover_move (direction b) (wave b) (sensors b) (steps b) ∷ []

unfoldable pub entries_of : Settings → Outcome → List Entry
entries_of r (Taken a) = entry_of r a
entries_of r (Ignored c) = []

unfoldable pub moment_log : Moment → List Entry
moment_log m = elim m.given [ none ↦ [] | some w ↦ entries_of m.head.settings (answer_of m.head w).outcome ]

unfoldable pub log_of : List Moment → List Entry
log_of [] = []
log_of (m ∷ ms) = moment_log m ++ log_of ms

-- The tick of each entry of the log, where the first moment is at tick t.
unfoldable pub times_of : ℕ → List Moment → List ℕ
times_of t [] = []
times_of t (m ∷ ms) = replicate (length (moment_log m)) t ++ times_of (t + 1) ms
