-- Demand 3 as one claim about the whole run, and demand 2 beside it.
-- Assumes nothing.
use Rattle.std.specs.Prelude.{ℕ, ◌≤◌, ◌≡◌, true, false, List, [], ◌∷◌, map, length}
use Rattle.std.proofs.Math.Option.{none, some}
use Rattle.head.specs.Busy.{is_busy, at_rest}
use Rattle.head.specs.Word.{answer_of}
use Rattle.head.specs.declared.state.Settings.{Settings}
use Rattle.head.specs.declared.state.Head.{Head}
use Rattle.orders.specs.Words.{items_of_all}
use Rattle.orders.specs.declared.order.Order.{Order}
use Rattle.plan.specs.Reading.{settings_read, log_read}
use Rattle.plan.specs.Stored.{orders, most_orders, plan_of}
use Rattle.schedule.specs.Earliest.{is_taken, start_word}
use Rattle.schedule.specs.Clock.{latest}
use Rattle.schedule.specs.Schedule.{Timed}
use Rattle.schedule.specs.Translate.{fit, most_words}
use Rattle.run.specs.Run.{Moment, answered, moments_of, head_after, log_of}
use Rattle.run.specs.Earliest.{Earliest}

-- The words that were given, in order.
unfoldable pub given_in : List Moment → List ℕ
given_in [] = []
given_in (m ∷ ms) = elim m.given [ none ↦ given_in ms | some w ↦ w ∷ given_in ms ]

-- A word that was given is taken, and after it the five error flags stand as they stood before it.
abbrev pub Obeyed : Moment → Type 0
Obeyed m =
    (w : ℕ) → m.given ≡ some w
    → (is_taken (answer_of m.head w).outcome ≡ true) × ((answer_of m.head w).head.flags ≡ m.head.flags)

abbrev pub AllObeyed : List Moment → Type 0
AllObeyed [] = Unit {0}
AllObeyed (m ∷ ms) = Obeyed m × AllObeyed ms

-- Nothing moves, and the settings are these.
abbrev pub Resting : Settings → Head → Type 0
Resting r s = (at_rest s ≡ true) × (s.settings ≡ r)

-- The head between the word of a moment, if there is one, and its tick.
abbrev pub after_word : Moment → Head
after_word m = answered m.head m.given

-- So it stays, in both states of each moment, until the head is idle again; the last head is the one after the last moment.
abbrev pub Held : Settings → List Moment → Head → Type 0
Held r [] last = Resting r last
Held r (m ∷ ms) last = Resting r m.head × (is_busy m.head ≡ true → Resting r (after_word m) × Held r ms last)

-- From each START until the head is idle again nothing moves and no setting changes.
abbrev pub StartsHeld : List Moment → Head → Type 0
StartsHeld [] last = Unit {0}
StartsHeld (m ∷ ms) last =
    (m.given ≡ some start_word
    → Resting m.head.settings m.head × Resting m.head.settings (after_word m) × Held m.head.settings ms last)
    × StartsHeld ms last

-- Two buffers read as timed words: each tick with the word at its place.
unfoldable pub paired : List ℕ → List ℕ → List Timed
paired [] ws = []
paired (t ∷ ts) [] = []
paired (t ∷ ts) (w ∷ ws) = record { tick = t; word = w } ∷ paired ts ws

-- The claim for a head, the orders of a plan, a list of timed words and an end.
pub record WholeRun (s : Head) (os : List Order) (list : List Timed) (end : ℕ) : Type 0 where
  -- At the end its settings are exactly those that the plan, read order by order without any words, says.
  pub settings : (head_after end 0 list s).settings ≡ settings_read s.settings os
  -- The exposures, housekeeping requests and cover moves it made, taken as one list, equal the plan's: the same ones in the same
  -- sequence, each exposure under all the settings the plan gives it.
  pub log : log_of (moments_of end 0 list s) ≡ log_read s.settings os
  -- From each START until the head is idle again nothing moves and no setting changes.
  pub held : StartsHeld (moments_of end 0 list s) (head_after end 0 list s)
  -- After the last tick the head is idle, so that every such stretch is whole.
  pub idle : is_busy (head_after end 0 list s) ≡ false
  -- Every word is taken, and after it the five error flags stand as they stood before it.
  pub obeyed : AllObeyed (moments_of end 0 list s)
  -- Every translated word was given, in order: none is lost, or hidden by another.
  pub given : given_in (moments_of end 0 list s) ≡ map (λ (x : Timed). x.word) list

-- Demands 2 and 3 of a list of n timed words and an end, for a head and the bytes of a plan with these orders.
pub record Demands (s : Head) (bs : List ℕ) (os : List Order) (list : List Timed) (n end : ℕ) : Type 0 where
  -- Any accepted plan of up to 64 orders.
  pub accepted : plan_of bs ≡ orders os
  pub few : length os ≤ most_orders
  -- A head in the state it was translated for: idle, mirror and cover at rest, whatever else that state holds.
  pub fits : fit s ≡ true
  -- Words, ticks and end are those of document 01's rules, and every word goes at the earliest tick they allow (demand 2). The clock
  -- starts at 0.
  pub earliest : Earliest (λ (t : ℕ). head_after t 0 list s) end 0 (items_of_all os) list
  -- At most 256 words, and the end at most 4,194,240.
  pub counted : length list ≡ n
  pub most : n ≤ most_words
  pub ends : end ≤ latest
  -- Demand 3: the whole run.
  pub run : WholeRun s os list end
