-- Document 01, "Plans": the first tick not before the clock at which the head would take a word and, for START, is at rest. It is said
-- of the head's own answers and ticks.
-- Assumes nothing.
use Rattle.std.specs.Prelude.{ℕ, zero, suc, ◌*◌, Bool, true, false, not, ◌&&◌, ◌||◌, eqb}
use Rattle.words.specs.Kinds.{most_steps}
use Rattle.head.specs.Limits.{cover_step_ticks}
use Rattle.head.specs.Busy.{at_rest}
use Rattle.head.specs.Word.{answer_of}
use Rattle.head.specs.Tick.{tick_of}
use Rattle.head.specs.declared.state.Head.{Head}
use Rattle.head.specs.declared.word.Outcome.{Outcome}
use Rattle.head.specs.declared.word.Outcome.TheVariants.{Taken, Ignored}

unfoldable pub is_taken : Outcome → Bool
is_taken (Taken a) = true
is_taken (Ignored c) = false

abbrev pub start_word : ℕ
start_word = 0x8000

abbrev pub hk_word : ℕ
hk_word = 0x4000

-- A word may go to the head as it is now.
unfoldable pub ready : Head → ℕ → Bool
ready s w = is_taken (answer_of s w).outcome && (not (eqb w start_word) || at_rest s)

-- How many ticks pass before a word may go, of at most so many.
unfoldable pub delay_within : ℕ → Head → ℕ → ℕ
delay_within zero s w = 0
delay_within (suc n) s w = elim (ready s w) [ true ↦ 0 | false ↦ suc (delay_within n (tick_of s).head w) ]

-- No motion lasts longer than the cover's whole way.
unfoldable pub delay_of : Head → ℕ → ℕ
delay_of s w = delay_within (cover_step_ticks * most_steps) s w
