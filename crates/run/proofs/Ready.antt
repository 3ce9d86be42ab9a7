-- The list of an accepted plan, word by word: each is taken, and each exposure begins while nothing moves and no mirror set is begun.
-- Assumes nothing.
use mathlib.Core.Path.{◌≡◌, refl, sym, ◌∙◌}
use mathlib.Core.Bool.{Bool, true, false, cond, not, ◌&&◌, ◌||◌}
use mathlib.Core.List.{List, [], ◌∷◌, ◌++◌, map}
use Prim.Native.Nat.{ℕ, ◌+◌, ◌-◌}
use native.Mathlib.Omega.{arith}
use borrow.Author.Tests.{eqb-true, le-leb, lt-leb}
use lib.Dec.{eqb}
use Rattle.words.specs.Kinds as kind
use Rattle.words.specs.Kinds.{allowed}
use Rattle.words.specs.Codec.{word_of}
use Rattle.words.proofs.Tests.{and_right}
use Rattle.head.specs.Range.{in_range}
use Rattle.head.specs.Busy.{busy_ticks, is_busy, at_rest}
use Rattle.head.specs.Apply.{act_of}
use Rattle.head.specs.Word.{out_of_turn, answer_of}
use Rattle.head.specs.Tick.{ticks_of}
use Rattle.head.specs.Numbers.{act_number, outcome_number, is_cause}
use Rattle.head.specs.List.{gap_after, stepped}
use Rattle.head.specs.State.{power_on}
use Rattle.head.specs.declared.state.Head.{Head}
use Rattle.head.specs.declared.word.Act.{Act}
use Rattle.head.specs.declared.word.Act.TheVariants.{None, Exposure, Request, Cover}
use Rattle.head.proofs.Bounds.{power-on-range}
use Rattle.head.proofs.BusyTicks.{ticks-still}
use Rattle.head.proofs.Ticks.{ticks-add}
use Rattle.orders.specs.Words.{Item, items_of_all}
use Rattle.orders.specs.declared.order.Order.{Order}
use Rattle.plan.specs.Stored.{orders, plan_of}
use Rattle.plan.proofs.Accepted.{AllFit, accepted-fit}
use Rattle.schedule.specs.Earliest.{is_taken, start_word, ready, delay_of}
use Rattle.schedule.specs.Schedule.{Timed, readied, span_of, sent, schedule_from, Rising}
use Rattle.schedule.specs.Translate.{fit, schedule_of, tick_list, word_list}
use Rattle.schedule.proofs.InTurn.{Step, word, wait, count_after, InTurn, empty, given, paused, is-start}
use Rattle.schedule.proofs.Orders.{ByOrder, Meant, by-orders}
use Rattle.schedule.proofs.Ready.{Idle, idle-ticks, readied-idle, readied-ready, readied-taken, sent-idle}
use Rattle.schedule.proofs.Plans.{fit-idle, rising}
use Rattle.run.specs.Listed.{Ready}

-- where c words of a mirror set are begun before the first step, none is at any START
abbrev NoneBegun : ℕ → List Step → Type 0
NoneBegun c [] = Unit {0}
NoneBegun c (word k b ∷ ms) = (k ≡ kind.start → c ≡ 0) × NoneBegun (count_after c k) ms
NoneBegun c (wait n ∷ ms) = NoneBegun c ms

-- the steps of an order leave none begun, so that it holds of what follows
abbrev Leaves : Order → List Step → Type 0
Leaves o ms = (ns : List Step) → NoneBegun 0 ns → NoneBegun 0 (ms ++ ns)

leaves : ByOrder Leaves
unfolding count_after
leaves =
    record {
      vdetcom = λ a b c d ns h. (λ e. refl, (λ e. refl, h));
      vdetadj = λ a b c d ns h. (λ e. refl, (λ e. refl, h));
      ir_times = λ a b c d ns h. (λ e. refl, (λ e. refl, h));
      ccd_times = λ a b c d ns h. (λ e. refl, (λ e. refl, h));
      window_mode = λ a b c d ns h. (λ e. refl, h);
      window = λ a b c d ns h. (λ e. refl, (λ e. refl, (λ e. refl, (λ e. refl, h))));
      detector = λ a b c d ns h. (λ e. refl, h);
      ccd_lamp = λ a b c d ns h. (λ e. refl, h);
      ir_lamp = λ a b c d ns h. (λ e. refl, h);
      shutter = λ a b c d ns h. (λ e. refl, h);
      annealing = λ a b c d ns h. (λ e. refl, h);
      mirror = λ a b c d ns h. (λ e. refl, (λ e. absurd (omega arith), (λ e. absurd (omega arith), (λ e. absurd (omega arith), h))));
      motor = λ a b c d ns h. (λ e. refl, h);
      cover = λ a b c d p q r s ns h. (λ e. refl, h);
      expose = λ a b c d ns h. (λ e. refl, h);
      housekeeping = λ a b c d ns h. (λ e. refl, h);
      wait = λ a b c d p ns h. h;
    }

plan-begun : (os : List Order) → AllFit os → Meant (items_of_all os) (λ ms. NoneBegun 0 ms)
plan-begun = by-orders Leaves leaves (λ os ms. NoneBegun 0 ms) tt (λ o os ms ns p q. p ns q)

-- the number of an act is no cause's, and 1 is the exposure's
act-cause : (a : Act) → is_cause (act_number a) ≡ false
unfolding is_cause act_number
act-cause None = refl
act-cause Exposure = refl
act-cause Request = refl
act-cause (Cover b) = rw (le-leb 21 (0x1000 + b) (omega arith), lt-leb (0x1000 + b) 25 (omega arith))

act-start : (k b : ℕ) → act_number (act_of k b) ≡ 1 → eqb k kind.start ≡ true
unfolding act_of act_number
act-start k b = go (eqb k kind.start) (eqb k kind.hk) (eqb k kind.cover)
  where
    go : (x y z : Bool) → act_number (cond x Exposure (cond y Request (cond z (Cover b) None))) ≡ 1 → x ≡ true
    go true y z e = refl
    go false true z e = absurd (omega (arith, e))
    go false false true e = absurd (omega (arith, e))
    go false false false e = absurd (omega (arith, e))

abbrev ticks_in : List Timed → List ℕ
ticks_in l = map (λ (x : Timed). x.tick) l

abbrev words_in : List Timed → List ℕ
words_in l = map (λ (x : Timed). x.word) l

-- the list as it is taken by a head as it is at the clock t: ticks pass until its first word
abbrev ReadyFrom : ℕ → List Timed → Head → Type 0
ReadyFrom t [] s = Unit {0}
ReadyFrom t (x ∷ xs) s = Ready (words_in (x ∷ xs)) (ticks_in (x ∷ xs)) (ticks_of (x.tick - t) s)

-- the same from an earlier clock
earlier : (l : List Timed) (t n end : ℕ) (s : Head) → Rising (t + n) l end → ReadyFrom (t + n) l (ticks_of n s) → ReadyFrom t l s
earlier [] t n end s r h = tt
earlier (x ∷ xs) t n end s r h =
    let first = r.0 in
    let e : x.tick - t ≡ n + (x.tick - (t + n)) = omega arith in
    rw (e, ticks-add n (x.tick - (t + n)) s) h

-- the same after a word of tick t
following : (l : List Timed) (t n end : ℕ) (s : Head) → Rising (t + n) l end → ReadyFrom (t + n) l (ticks_of n s)
    → Ready (words_in l) (ticks_in l) (ticks_of (gap_after t (ticks_in l)) s)
unfolding gap_after
following [] t n end s r h = tt
following (x ∷ xs) t n end s r h = earlier (x ∷ xs) t n end s r h

-- a word of kind k with data b, in turn, for a head that is idle
module _ (k b c : ℕ) (fine : allowed k b ≡ true) (turn : out_of_turn c k ≡ false) (s : Head) (i : Idle s c) where
  abbrev w : ℕ
  w = word_of k b

  -- the head that gets it
  abbrev t : Head
  t = readied s w

  number : outcome_number (answer_of t w).outcome ≡ act_number (act_of k b)
  unfolding outcome_number
  number = rw (readied-taken k b c fine turn s i)

  word-taken : is_cause (outcome_number (answer_of t w).outcome) ≡ false
  word-taken = rw number (act-cause (act_of k b))

  word-starts : (k ≡ kind.start → c ≡ 0) → outcome_number (answer_of t w).outcome ≡ 1 → (at_rest t ≡ true) × (t.begun.count ≡ 0)
  unfolding ready
  word-starts none e =
      let is = act-start k b (sym number ∙ e) in
      let rests = and_right (is_taken (answer_of t w).outcome) (not (eqb w start_word) || at_rest t) (readied-ready k b c fine turn s i) in
      (rw (is-start k b fine, is) at rests, (readied-idle k b c fine turn s i).count ∙ none (eqb-true k kind.start is))

  -- with what follows it
  word-ready : (u : ℕ) → (k ≡ kind.start → c ≡ 0) → (l : List Timed) (end : ℕ) → Rising (u + delay_of s w + span_of t w) l end
      → ReadyFrom (u + delay_of s w + span_of t w) l (sent s w) → ReadyFrom u (record { tick = u + delay_of s w; word = w } ∷ l) s
  unfolding readied sent stepped
  word-ready u none l end r h =
      let e : u + delay_of s w - u ≡ delay_of s w = omega arith in
      rw e (word-taken, word-starts none, following l (u + delay_of s w) (span_of t w) end (answer_of t w).head r h)

-- the schedule of items from the clock t on
items-ready : {c : ℕ} {is : List Item} {ms : List Step} → InTurn c is ms → NoneBegun c ms → (s : Head) → Idle s c → (t : ℕ)
    → ReadyFrom t (schedule_from s t is).list s
unfolding schedule_from
items-ready empty none s i t = tt
items-ready {c} (given {is = is} k b fine turn r) none s i t =
    let w = word_of k b in
    let u = t + delay_of s w + span_of (readied s w) w in
    let rest = schedule_from (sent s w) u is in
    let then = sent-idle k b c fine turn s i in
    word-ready k b c fine turn s i t none.0 rest.list rest.end (rising r (sent s w) then u) (items-ready r none.1 (sent s w) then u)
items-ready {c} (paused {is = is} n r) none s i t =
    let rest = schedule_from (ticks_of n s) (t + n) is in
    let then = idle-ticks n s c i in
    earlier rest.list t n rest.end s (rising r (ticks_of n s) then (t + n)) (items-ready r none (ticks_of n s) then (t + n))

-- a head that is fit gets the first word at once: the ticks before it change nothing
module _ (s : Head) (fits : fit s ≡ true) where
  fit-still : (m : ℕ) → ticks_of m s ≡ s
  unfolding fit
  fit-still m =
      let i = fit-idle s fits in
      ticks-still s i.ranged m i.idle (and_right (in_range s && not (is_busy s)) (at_rest s) fits)

  at_once : (l : List Timed) (t : ℕ) → ReadyFrom t l s → Ready (words_in l) (ticks_in l) s
  at_once [] t h = tt
  at_once (x ∷ xs) t h = rw (fit-still (x.tick - t)) at h

pub accepted-ready : (s : Head) (bs : List ℕ) (os : List Order) → fit s ≡ true → s.begun.count ≡ 0 → plan_of bs ≡ orders os
    → Ready (word_list (schedule_of s (plan_of bs))) (tick_list (schedule_of s (plan_of bs))) s
unfolding schedule_of
accepted-ready s bs os fits none e =
    let plan = plan-begun os (accepted-fit bs os e) in
    let idle = fit-idle s fits in
    let i : Idle s 0 = record { ranged = idle.ranged; idle = idle.idle; count = none } in
    rw e (at_once s fits (schedule_from s 0 (items_of_all os)).list 0 (items-ready (plan.turn 0) plan.holds s i 0))

-- and so from power-on
pub power-on-fit : fit power_on ≡ true
unfolding fit is_busy busy_ticks at_rest
power-on-fit = rw power-on-range

pub power-on-ready : (bs : List ℕ) (os : List Order) → plan_of bs ≡ orders os
    → Ready (word_list (schedule_of power_on (plan_of bs))) (tick_list (schedule_of power_on (plan_of bs))) power_on
power-on-ready bs os e = accepted-ready power_on bs os power-on-fit refl e
