-- Demand 2, said of the run itself: every word goes at the earliest tick the rules allow.
-- Assumes nothing.
use Rattle.std.specs.Prelude.{ℕ, ◌+◌, ◌<◌, ◌≤◌, ◌≡◌, true, false, List, [], ◌∷◌}
use Rattle.head.specs.declared.state.Head.{Head}
use Rattle.orders.specs.Words.{Item, send, pause}
use Rattle.schedule.specs.Earliest.{ready}
use Rattle.schedule.specs.Schedule.{Timed, span_of}

-- Document 01, "Plans": the words of a plan and its waits, followed with the list of timed words and the clock t; `at` is the head of the
-- run at each tick. A word goes at the first tick not before the clock at which the head of the run is ready for it. The clock then is
-- that tick + 1; after START it is that tick + length instead, after HK that tick + 3. A wait adds its ticks. The end is the last clock.
abbrev pub Earliest : (ℕ → Head) → ℕ → ℕ → List Item → List Timed → Type 0
Earliest at end t [] [] = end ≡ t
Earliest at end t [] (x ∷ xs) = ⊥
Earliest at end t (send w ∷ is) [] = ⊥
Earliest at end t (send w ∷ is) (x ∷ xs) =
    (x.word ≡ w)
    × (t ≤ x.tick)
    × ((u : ℕ) → t ≤ u → u < x.tick → ready (at u) w ≡ false)
    × (ready (at x.tick) w ≡ true)
    × Earliest at end (x.tick + span_of (at x.tick) w) is xs
Earliest at end t (pause n ∷ is) xs = Earliest at end (t + n) is xs
