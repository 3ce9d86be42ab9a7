-- Document 01, "Plans": the words of a plan with their ticks, and its end.
-- Assumes nothing.
use Rattle.std.specs.Prelude.{ℕ, ◌+◌, ◌≤◌, cond, List, [], ◌∷◌, eqb}
use Rattle.head.specs.Limits.{length_of, hk_ticks}
use Rattle.head.specs.Word.{answer_of}
use Rattle.head.specs.Tick.{ticks_of}
use Rattle.head.specs.declared.state.Head.{Head}
use Rattle.orders.specs.Words.{Item, send, pause}
use Rattle.schedule.specs.Earliest.{start_word, hk_word, delay_of}

pub record Timed : Type 0 where
  pub tick : ℕ
  pub word : ℕ

-- The head when a word goes: after the ticks that pass before it.
unfoldable pub readied : Head → ℕ → Head
readied s w = ticks_of (delay_of s w) s

-- From a word's tick to the clock after it: 1, after START the length of the acquisition, after HK 3.
unfoldable pub span_of : Head → ℕ → ℕ
span_of s w = cond (eqb w start_word) (length_of s.settings) (cond (eqb w hk_word) hk_ticks 1)

-- The head at the clock after a word.
unfoldable pub sent : Head → ℕ → Head
sent s w = ticks_of (span_of (readied s w) w) (answer_of (readied s w) w).head

pub record Schedule : Type 0 where
  pub list : List Timed
  pub end : ℕ

abbrev pub following : ℕ → ℕ → Schedule → Schedule
following t w r = record { list = record { tick = t; word = w } ∷ r.list; end = r.end }

-- The head is as it is at the clock t.
unfoldable pub schedule_from : Head → ℕ → List Item → Schedule
schedule_from s t [] = record { list = []; end = t }
schedule_from s t (send w ∷ is) =
    following (t + delay_of s w) w (schedule_from (sent s w) (t + delay_of s w + span_of (readied s w) w) is)
schedule_from s t (pause n ∷ is) = schedule_from (ticks_of n s) (t + n) is

-- The ticks of a list from t on rise strictly, and the last is before the end.
abbrev pub Rising : ℕ → List Timed → ℕ → Type 0
Rising t [] end = t ≤ end
Rising t (x ∷ xs) end = (t ≤ x.tick) × Rising (x.tick + 1) xs end
