-- The words of one order of a plan, and then those of the rest, as the clock times them.
-- Assumes nothing.
use mathlib.Core.Path.{◌≡◌, refl, sym, ap, ◌∙◌}
use mathlib.Core.Bool.{true}
use mathlib.Core.List.{List, [], ◌∷◌, ◌++◌, map, map-append}
use Prim.Native.Nat.{ℕ, ◌≤◌}
use native.Mathlib.Decide.{ℕ_discrete}
use native.Mathlib.Omega.{arith}
use borrow.Author.Tests.{ne_eqb}
use lib.ListN.{length, take, length-map}
use Rattle.words.specs.Kinds.{bits_of}
use Rattle.orders.specs.Codes as code
use Rattle.orders.specs.Codes.{fit}
use Rattle.orders.specs.Words.{Item, send, pause, words_of, items_of}
use Rattle.orders.specs.Encoding.{four, words_cut, listed}
use Rattle.orders.specs.declared.order.Order.{Order}
use Rattle.orders.specs.declared.encoding.Words.{Words}
use Rattle.orders.proofs.Fit.{fit-known}
use Rattle.orders.proofs.OrderWords.{words-few, fit_cut}
use Rattle.schedule.specs.Schedule.{Timed}
use Rattle.schedule.specs.Clock.{kind_in, clock_after, clocked_from, clock_through}
use Rattle.schedule.specs.Translate.{word_list, tick_list, words_in}
use Rattle.schedule.specs.declared.clock.Clock.{Clock}
use Rattle.schedule.proofs.Clocked.{clocked-list}

module _ (o : Order) (f : fit o ≡ true) where
  pub fit-few : length (words_of o) ≤ 4
  fit-few = (words-few o (fit-known o f)).most

  -- what the code is given for the order holds its words
  pub given-words : (r : Words) → r ≡ listed (words_cut o) → words_in r ≡ words_of o
  unfolding listed
  given-words r is = rw (is, fit_cut o f) (all (words_of o) fit-few)
    where
      all : (ws : List ℕ) → length ws ≤ 4 → take (length ws) (four ws) ≡ ws
      all [] h = refl
      all (a ∷ []) h = refl
      all (a ∷ b ∷ []) h = refl
      all (a ∷ b ∷ c ∷ []) h = refl
      all (a ∷ b ∷ c ∷ d ∷ []) h = refl
      all (a ∷ b ∷ c ∷ d ∷ e ∷ ws) h = absurd (omega arith)

  pub given-count : (r : Words) → r ≡ listed (words_cut o) → r.count ≡ length (words_of o)
  unfolding listed
  given-count r is = rw (is, fit_cut o f)

module _ (o : Order) where
  -- a wait is a pause and has no words; any other order is its words
  module _ (e : o.code ≡ code.wait) where
    pub wait-items : items_of o ≡ pause o.a ∷ []
    unfolding items_of
    wait-items = rw e

    pub wait-words : words_of o ≡ []
    unfolding words_of
    wait-words = rw e

  pub other_items : (o.code ≡ code.wait → ⊥) → items_of o ≡ map send (words_of o)
  unfolding items_of
  other_items ne = rw (ne_eqb o.code code.wait ne)

pub words-sent : (c : Clock) (ws : List ℕ) → word_list (clocked_from c (map send ws)) ≡ ws
unfolding clocked_from
words-sent c [] = refl
words-sent c (w ∷ ws) = ap (λ (l : List ℕ). w ∷ l) (words-sent (clock_after c (kind_in w) (bits_of w)) ws)

pub order-words : (c : Clock) (o : Order) → word_list (clocked_from c (items_of o)) ≡ words_of o
unfolding clocked_from
order-words c o = go (ℕ_discrete o.code code.wait)
  where
    go : Dec (o.code ≡ code.wait) → word_list (clocked_from c (items_of o)) ≡ words_of o
    go (yes e) = rw (wait-items o e, wait-words o e)
    go (no ne) = rw (other_items o ne) (words-sent c (words_of o))

-- an order, and then the rest
module _ (c : Clock) (o : Order) (js : List Item) where
  pub words-then : word_list (clocked_from c (items_of o ++ js)) ≡ words_of o ++ word_list (clocked_from (clock_through c (items_of o)) js)
  words-then =
      ap (map (λ (x : Timed). x.word)) (clocked-list c (items_of o) js)
      ∙ map-append (λ (x : Timed). x.word) (clocked_from c (items_of o)).list _
      ∙ ap (λ (l : List ℕ). l ++ word_list (clocked_from (clock_through c (items_of o)) js)) (order-words c o)

  pub ticks-then : tick_list (clocked_from c (items_of o ++ js))
      ≡ tick_list (clocked_from c (items_of o)) ++ tick_list (clocked_from (clock_through c (items_of o)) js)
  ticks-then =
      ap (map (λ (x : Timed). x.tick)) (clocked-list c (items_of o) js)
      ∙ map-append (λ (x : Timed). x.tick) (clocked_from c (items_of o)).list _

  pub ticks-long : length (tick_list (clocked_from c (items_of o))) ≡ length (words_of o)
  ticks-long =
      length-map (clocked_from c (items_of o)).list (λ (x : Timed). x.tick)
      ∙ sym (length-map (clocked_from c (items_of o)).list (λ (x : Timed). x.word))
      ∙ ap length (order-words c o)
