-- The orders of a plan judged and laid one after another: k of them have been.
-- Assumes nothing.
use mathlib.Core.Path.{◌≡◌, refl, sym, ap, ◌∙◌}
use mathlib.Core.Bool.{true}
use mathlib.Core.List.{List, []}
use Rattle.std.specs.Prelude.{Ok, Err}
use Prim.Native.Nat.{ℕ, suc, ◌+◌, ◌-◌, ◌*◌, ◌≤◌, ◌<◌}
use native.Mathlib.Nat.{add_assoc}
use native.Mathlib.Omega.{arith}
use lib.ListN.{length}
use lib.Seq.{sets, length-sets}
use Rattle.orders.specs.Codes.{fit}
use Rattle.orders.specs.Words.{words_of, items_of, items_of_all}
use Rattle.orders.specs.declared.order.Order.{Order}
use Rattle.plan.specs.Stored.{Plan, orders, refused, byte_at, order_at, fault_at, before, orders_from, most_orders}
use Rattle.plan.specs.Judged.{fault_of, checked_at}
use Rattle.plan.specs.declared.stored.Fault.{Fault}
use Rattle.plan.specs.declared.stored.Fault.TheVariants.{TooMany}
use Rattle.plan.proofs.Accepted.{sound}
use Rattle.plan.proofs.Faults.{err-some, err-is}
use Rattle.plan.proofs.Laid.{sets-append}
use Rattle.plan.proofs.Judging.{from_end, from-many, from-fault, from-order}
use Rattle.schedule.specs.Clock.{Near, early, longest_order, clocked_from, clock_through}
use Rattle.schedule.specs.Filled.{order_ticks, timed_by, word_total, laid_of, words_laid, ticks_laid}
use Rattle.schedule.specs.Translate.{most_words, tick_list, word_list}
use Rattle.schedule.specs.declared.clock.Clock.{Clock}
use Rattle.schedule.proofs.Clocked.{clocked-end, near-more}
use Rattle.schedule.proofs.OrderLaid.{fit-few, words-then, ticks-then, ticks-long}
use Rattle.schedule.proofs.Plans.{near-order}

-- an order, and then the rest of a plan
module _ (o : Order) (c : Clock) (n : ℕ) where
  laid-before : (p : Plan) → laid_of (before o p) c n ≡ laid_of p (clock_through c (items_of o)) (n + length (words_of o))
  unfolding laid_of word_total items_of_all
  laid-before (orders os) =
      rw (← add_assoc n (length (words_of o)) (word_total os), clocked-end c (items_of o) (items_of_all os))
  laid-before (refused m q) = refl

  words-before : (p : Plan) (l : List ℕ)
      → words_laid (before o p) c n l ≡ words_laid p (clock_through c (items_of o)) (n + length (words_of o)) (sets l n (words_of o))
  unfolding words_laid items_of_all
  words-before (orders os) l =
      ap (sets l n) (words-then c o (items_of_all os)) ∙ sets-append (words_of o) (word_list (timed_by (clock_through c (items_of o)) os)) l n
  words-before (refused m q) l = refl

  ticks-before : (p : Plan) (l : List ℕ)
      → ticks_laid (before o p) c n l ≡ ticks_laid p (clock_through c (items_of o)) (n + length (words_of o)) (sets l n (order_ticks c o))
  unfolding ticks_laid items_of_all
  ticks-before (orders os) l =
      let rest = tick_list (timed_by (clock_through c (items_of o)) os) in
      ap (sets l n) (ticks-then c o (items_of_all os))
      ∙ sets-append (order_ticks c o) rest l n
      ∙ ap (λ (m : ℕ). sets (sets l n (order_ticks c o)) (n + m) rest) (ticks-long c o (items_of_all os))
  ticks-before (refused m q) l = refl

pub record Passing (words₀ ticks₀ bs : List ℕ) (start : Clock) (words ticks : List ℕ) (at next : ℕ) (clock : Clock) (k : ℕ) : Type 0 where
  pub passed : k ≤ 64
  pub small : next ≤ 4 * k
  pub near : Near (longest_order * k) clock
  pub long_words : length words ≡ length words₀
  pub long_ticks : length ticks ≡ length ticks₀
  pub same_answer : laid_of (orders_from most_orders bs 3) start 0 ≡ laid_of (orders_from (64 - k) bs at) clock next
  pub same_words : words_laid (orders_from most_orders bs 3) start 0 words₀ ≡ words_laid (orders_from (64 - k) bs at) clock next words
  pub same_ticks : ticks_laid (orders_from most_orders bs 3) start 0 ticks₀ ≡ ticks_laid (orders_from (64 - k) bs at) clock next ticks

module _ {words₀ ticks₀ bs : List ℕ} {start : Clock} where
  module _ {words ticks : List ℕ} {at next : ℕ} {clock : Clock} {k : ℕ} (h : Passing words₀ ticks₀ bs start words ticks at next clock k) where
    -- the ways out
    pub passing-many : at < length bs → 64 ≤ k → Err (record { fault = TooMany; place = at }) ≡ laid_of (orders_from most_orders bs 3) start 0
    unfolding laid_of fault_of
    passing-many more full =
        let none : 64 - k ≡ 0 = omega arith in
        sym (h.same_answer ∙ ap (λ (m : ℕ). laid_of (orders_from m bs at) clock next) none ∙ ap (λ (p : Plan). laid_of p clock next) (from-many bs at more))

    module _ (all : length bs ≤ at) where
      none : orders_from (64 - k) bs at ≡ orders []
      none = from_end bs at (64 - k) all

      pub passing-end : Ok (record { count = next; end = clock.now }) ≡ laid_of (orders_from most_orders bs 3) start 0
      unfolding laid_of word_total clocked_from items_of_all
      passing-end =
          let n : next ≡ next + 0 = omega arith in
          ap (λ (m : ℕ). Ok (record { count = m; end = clock.now })) n ∙ sym (h.same_answer ∙ ap (λ (p : Plan). laid_of p clock next) none)

      pub passing-words : words ≡ words_laid (orders_from most_orders bs 3) start 0 words₀
      unfolding words_laid clocked_from items_of_all
      passing-words = sym (h.same_words ∙ ap (λ (p : Plan). words_laid p clock next words) none)

      pub passing-ticks : ticks ≡ ticks_laid (orders_from most_orders bs 3) start 0 ticks₀
      unfolding ticks_laid clocked_from items_of_all
      passing-ticks = sym (h.same_ticks ∙ ap (λ (p : Plan). ticks_laid p clock next ticks) none)

    module _ (more : at < length bs) (room : k < 64) where
      step : 64 - k ≡ suc (64 - (k + 1))
      step = omega arith

      pub passing-fault : {f : Fault} → Err f ≡ checked_at bs at → Err (record { fault = f; place = at }) ≡ laid_of (orders_from most_orders bs 3) start 0
      unfolding laid_of
      passing-fault e =
          rw (err-is _ _ e)
          (sym
          (h.same_answer
          ∙ ap (λ (m : ℕ). laid_of (orders_from m bs at) clock next) step
          ∙ ap (λ (p : Plan). laid_of p clock next) (from-fault bs at more (64 - (k + 1)) (err-some _ _ e))))

      module _ (whole : fault_at bs at ≡ 0) where
        -- one turn
        pub passing-fits : fit (order_at bs at) ≡ true
        passing-fits = (sound bs at whole).fits

        pub passing-early : Near early clock
        passing-early = near-more (longest_order * k) early clock (omega arith) h.near

        pub passing-fit-words : most_words ≤ length words₀ → next + length (words_of (order_at bs at)) ≤ length words
        passing-fit-words r = let s = h.small in let l = h.long_words in omega (arith, fit-few (order_at bs at) passing-fits)

        pub passing-fit-ticks : most_words ≤ length ticks₀ → next + length (words_of (order_at bs at)) ≤ length ticks
        passing-fit-ticks r = let s = h.small in let l = h.long_ticks in omega (arith, fit-few (order_at bs at) passing-fits)

        rest : Plan
        rest = orders_from (64 - (k + 1)) bs (at + 1 + byte_at bs at)

        here : orders_from (64 - k) bs at ≡ before (order_at bs at) (orders_from (64 - (k + 1)) bs (at + 1 + byte_at bs at))
        here = ap (λ (m : ℕ). orders_from m bs at) step ∙ from-order bs at more (64 - (k + 1)) whole

        pub passing-next : {words' ticks' : List ℕ} {next' : ℕ} {clock' : Clock}
            → clock' ≡ clock_through clock (items_of (order_at bs at)) → next' ≡ next + length (words_of (order_at bs at))
            → words' ≡ sets words next (words_of (order_at bs at)) → ticks' ≡ sets ticks next (order_ticks clock (order_at bs at))
            → Passing words₀ ticks₀ bs start words' ticks' (at + 1 + byte_at bs at) next' clock' (k + 1)
        unfolding rest
        passing-next c n w t =
            let o = order_at bs at in
            let s = h.small in
            rw (c, n, w, t)
            (record {
              passed = omega arith;
              small = omega (arith, fit-few (order_at bs at) passing-fits);
              near = near-more (longest_order * k + longest_order) (longest_order * (k + 1)) (clock_through clock (items_of o)) (omega arith) (near-order o passing-fits (longest_order * k) clock h.near);
              long_words = length-sets words next (words_of o) ∙ h.long_words;
              long_ticks = length-sets ticks next (order_ticks clock o) ∙ h.long_ticks;
              same_answer = h.same_answer ∙ ap (λ (p : Plan). laid_of p clock next) here ∙ laid-before o clock next rest;
              same_words = h.same_words ∙ ap (λ (p : Plan). words_laid p clock next words) here ∙ words-before o clock next rest words;
              same_ticks = h.same_ticks ∙ ap (λ (p : Plan). ticks_laid p clock next ticks) here ∙ ticks-before o clock next rest ticks;
            })
