-- The words of a plan have sixteen bits.
-- Assumes nothing.
use mathlib.Core.Path.{◌≡◌}
use mathlib.Core.Bool.{Bool, true, false, cond}
use mathlib.Core.List.{List, [], ◌∷◌, ◌++◌, map}
use Prim.Native.Nat.{ℕ, ◌+◌, ◌%◌, ◌<◌}
use native.Mathlib.Omega.{arith}
use Rattle.head.specs.Tick.{ticks_of}
use Rattle.head.specs.declared.state.Head.{Head}
use Rattle.orders.specs.Codes.{is}
use Rattle.orders.specs.Codes as code
use Rattle.orders.specs.Encoding.{cut, words_cut}
use Rattle.orders.specs.Words.{Item, send, pause, words_of, items_of, items_of_all}
use Rattle.orders.specs.declared.order.Order.{Order}
use Rattle.orders.proofs.OrderWords.{fit_cut}
use Rattle.plan.proofs.Accepted.{AllFit}
use Rattle.schedule.specs.Earliest.{delay_of}
use Rattle.schedule.specs.Schedule.{readied, span_of, sent, schedule_from}
use Rattle.schedule.specs.Translate.{word_list}
use Rattle.import.specs.Line.{word_limit}

-- each word has sixteen bits
abbrev pub Sixteen : List ℕ → Type 0
Sixteen [] = Unit {0}
Sixteen (w ∷ ws) = (w < word_limit) × Sixteen ws

-- an order that fits is not cut
uncut : (ws : List ℕ) → cut ws ≡ ws → Sixteen ws
uncut [] e = tt
uncut (w ∷ ws) e =
    let first : w % 65536 ≡ w = cc in
    let rest : cut ws ≡ ws = cc in
    (omega arith, uncut ws rest)

-- the words among items
abbrev Given : List Item → Type 0
Given [] = Unit {0}
Given (send w ∷ is) = (w < word_limit) × Given is
Given (pause n ∷ is) = Given is

given-append : (is js : List Item) → Given is → Given js → Given (is ++ js)
given-append [] js p q = q
given-append (send w ∷ is) js p q = (p.0, given-append is js p.1 q)
given-append (pause n ∷ is) js p q = given-append is js p q

given-words : (ws : List ℕ) → Sixteen ws → Given (map send ws)
given-words [] p = tt
given-words (w ∷ ws) p = (p.0, given-words ws p.1)

order-given : (o : Order) → Sixteen (words_of o) → Given (items_of o)
unfolding items_of
order-given o p = go (is o code.wait)
  where
    go : (z : Bool) → Given (cond z (pause o.a ∷ []) (map send (words_of o)))
    go true = tt
    go false = given-words (words_of o) p

orders-given : (os : List Order) → AllFit os → Given (items_of_all os)
unfolding items_of_all words_cut
orders-given [] p = tt
orders-given (o ∷ os) p =
    given-append (items_of o) (items_of_all os) (order-given o (uncut (words_of o) (fit_cut o p.0))) (orders-given os p.1)

schedule-words : (s : Head) (t : ℕ) (is : List Item) → Given is → Sixteen (word_list (schedule_from s t is))
unfolding schedule_from
schedule-words s t [] p = tt
schedule-words s t (send w ∷ is) p = (p.0, schedule-words (sent s w) (t + delay_of s w + span_of (readied s w) w) is p.1)
schedule-words s t (pause n ∷ is) p = schedule-words (ticks_of n s) (t + n) is p

pub plan-words : (s : Head) (os : List Order) → AllFit os → Sixteen (word_list (schedule_from s 0 (items_of_all os)))
plan-words s os all = schedule-words s 0 (items_of_all os) (orders-given os all)
