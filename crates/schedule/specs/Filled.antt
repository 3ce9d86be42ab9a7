-- What one order leaves in the two lists and of the clock, as the code's steps promise it.
-- Assumes nothing.
use Rattle.std.specs.Prelude.{List, [], ◌∷◌, ℕ, zero, suc, ◌+◌, length, Result, Ok, Err}
use Rattle.std.proofs.lemmas.List.Edits.{sets}
use Rattle.orders.specs.Words.{words_of, items_of, items_of_all}
use Rattle.orders.specs.declared.order.Order.{Order}
use Rattle.plan.specs.Stored.{Plan, orders, refused}
use Rattle.plan.specs.Judged.{refusal_of}
use Rattle.plan.specs.declared.stored.Refusal.{Refusal}
use Rattle.schedule.specs.declared.Translation.{Translation}
use Rattle.schedule.specs.Schedule.{Schedule}
use Rattle.schedule.specs.Clock.{clocked_from}
use Rattle.schedule.specs.Translate.{word_list, tick_list}
use Rattle.schedule.specs.declared.clock.Clock.{Clock}

-- The ticks of an order's words.
abbrev pub order_ticks : Clock → Order → List ℕ
order_ticks c o = tick_list (clocked_from c (items_of o))

-- So many ticks, one after another.
unfoldable pub up_from : ℕ → ℕ → List ℕ
up_from t zero = []
up_from t (suc n) = t ∷ up_from (t + 1) n

-- The schedule of orders from a clock on.
abbrev pub timed_by : Clock → List Order → Schedule
timed_by c os = clocked_from c (items_of_all os)

-- How many words orders have.
unfoldable pub word_total : List Order → ℕ
word_total [] = 0
word_total (o ∷ os) = length (words_of o) + word_total os

-- The answer for orders that are laid from a place on, the clock before them being c.
unfoldable pub laid_of : Plan → Clock → ℕ → Result Translation Refusal
laid_of (orders os) c n = Ok (record { count = n + word_total os; end = (timed_by c os).end })
laid_of (refused m p) c n = Err (refusal_of m p)

-- Lists with the words, or the ticks, of orders from a place on; of a plan that is refused nothing is said.
unfoldable pub words_laid : Plan → Clock → ℕ → List ℕ → List ℕ
words_laid (orders os) c n l = sets l n (word_list (timed_by c os))
words_laid (refused m p) c n l = []

unfoldable pub ticks_laid : Plan → Clock → ℕ → List ℕ → List ℕ
ticks_laid (orders os) c n l = sets l n (tick_list (timed_by c os))
ticks_laid (refused m p) c n l = []
