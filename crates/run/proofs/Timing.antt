-- Demand 2 of the run: at each tick from the clock up to a word's the head of the run is the one that the schedule was made by, so that
-- every word goes at the earliest tick.
-- Assumes nothing.
use mathlib.Core.Path.{◌≡◌, refl, ap, ◌∙◌}
use mathlib.Core.Bool.{true, false}
use mathlib.Core.List.{List, ◌∷◌}
use Prim.Native.Nat.{ℕ, ◌+◌, ◌-◌, ◌<◌, ◌≤◌}
use native.Mathlib.Nat.{sub-zero}
use native.Mathlib.Omega.{arith}
use borrow.Author.Tests.{ne_eqb}
use Rattle.words.specs.Kinds.{allowed}
use Rattle.words.specs.Codec.{word_of}
use Rattle.head.specs.Word.{out_of_turn}
use Rattle.head.specs.Tick.{ticks_of}
use Rattle.head.specs.declared.state.Head.{Head}
use Rattle.orders.specs.Words.{Item, items_of_all}
use Rattle.orders.specs.declared.order.Order.{Order}
use Rattle.plan.proofs.Accepted.{AllFit}
use Rattle.schedule.specs.Earliest.{ready, delay_of}
use Rattle.schedule.specs.Schedule.{Timed, Schedule, readied, span_of, sent, schedule_from}
use Rattle.schedule.specs.Translate.{fit}
use Rattle.schedule.proofs.InTurn.{Step, InTurn, empty, given, paused}
use Rattle.schedule.proofs.Ready.{Idle, idle-ticks, delay-wait, not-before, readied-ready, sent-idle}
use Rattle.schedule.proofs.Plans.{fit-idle, plan-steps}
use Rattle.run.specs.Run.{word_at, head_after}
use Rattle.run.specs.Earliest.{Earliest}
use Rattle.run.proofs.Segments.{Silent, head-add, quiet-head, none_before}
use Rattle.run.proofs.Whole.{run-head}

-- `at` has the heads of a run from tick t on, which starts with the head s
abbrev FromTick : (ℕ → Head) → ℕ → List Timed → Head → Type 0
FromTick at t l s = (u : ℕ) → t ≤ u → at u ≡ head_after (u - t) t l s

-- a word of kind k with data b, in turn, for a head that is idle at the clock t; the items after it
module _ (k b c : ℕ) (fine : allowed k b ≡ true) (turn : out_of_turn c k ≡ false) (s : Head) (i : Idle s c) (t : ℕ) (is : List Item) where
  abbrev w : ℕ
  w = word_of k b

  abbrev d : ℕ
  d = delay_of s w

  -- the clock after the word
  abbrev v : ℕ
  v = t + d + span_of (readied s w) w

  abbrev xs : List Timed
  xs = (schedule_from (sent s w) v is).list

  abbrev l : List Timed
  l = record { tick = t + d; word = w } ∷ xs

  silent : (n : ℕ) → n ≤ d → Silent l n t
  unfolding word_at
  silent n h = λ u p q. rw (ne_eqb (t + d) u (omega arith)) (none_before is (sent s w) v u (omega arith))

  module _ (at : ℕ → Head) (run : FromTick at t l s) where
    before : (u : ℕ) → t ≤ u → u ≤ t + d → at u ≡ ticks_of (u - t) s
    before u p q = run u p ∙ quiet-head l (u - t) t s (silent (u - t) (omega arith))

    at-word : at (t + d) ≡ readied s w
    unfolding readied
    at-word =
        let n : t + d - t ≡ d = omega arith in
        before (t + d) (omega arith) (omega arith) ∙ ap (λ (m : ℕ). ticks_of m s) n

    not-ready : (u : ℕ) → t ≤ u → u < t + d → ready (at u) w ≡ false
    not-ready u p q =
        let wait = delay-wait k b c fine turn s i in
        rw (before u p (omega arith)) (not-before k b c fine turn s i (u - t) (omega arith))

    from_next : FromTick at v xs (sent s w)
    from_next u p =
        let n : u - t ≡ d + (span_of (readied s w) w + (u - v)) = omega arith in
        run u (omega arith) ∙ rw n (run-head k b c fine turn s i t (u - v) xs (none_before is (sent s w) v))

-- the same of items from the clock t on
pub run-earliest : {c : ℕ} {is : List Item} {st : List Step} → InTurn c is st → (s : Head) → Idle s c → (t : ℕ) (at : ℕ → Head)
    → FromTick at t (schedule_from s t is).list s
    → Earliest at (schedule_from s t is).end t is (schedule_from s t is).list
unfolding schedule_from
run-earliest empty s i t at run = refl
run-earliest {c} (given {is = is} k b fine turn r) s i t at run =
    let w = word_of k b in
    let next = t + delay_of s w + span_of (readied s w) w in
    let rest = run-earliest r (sent s w) (sent-idle k b c fine turn s i) next at (from_next k b c fine turn s i t is at run) in
    let here = at-word k b c fine turn s i t is at run in
    (refl, omega arith, not-ready k b c fine turn s i t is at run, rw here (readied-ready k b c fine turn s i), rw here rest)
run-earliest {c} (paused {is = is} n r) s i t at run =
    run-earliest r (ticks_of n s) (idle-ticks n s c i) (t + n) at from-wait
  where
    from-wait : FromTick at (t + n) (schedule_from (ticks_of n s) (t + n) is).list (ticks_of n s)
    from-wait u p =
        let rest = (schedule_from (ticks_of n s) (t + n) is).list in
        let m : u - t ≡ n + (u - (t + n)) = omega arith in
        let still : Silent rest n t = λ v q z. none_before is (ticks_of n s) (t + n) v z in
        run u (omega arith) ∙ rw (m, head-add rest n (u - (t + n)) t s, quiet-head rest n t s still)

-- Demand 2, for a head that is fit and orders that are known and fit
module _ (s : Head) (os : List Order) (h : fit s ≡ true) (all : AllFit os) where
  abbrev made : Schedule
  made = schedule_from s 0 (items_of_all os)

  pub run-timed : Earliest (λ (t : ℕ). head_after t 0 made.list s) made.end 0 (items_of_all os) made.list
  run-timed =
      run-earliest ((plan-steps os all).turn s.begun.count) s (fit-idle s h) 0 (λ (t : ℕ). head_after t 0 made.list s)
      (λ u p. rw (sub-zero u))
