-- A plan whose orders are known and fit, for a head that is fit: the clock gives the ticks of its words, they are at most 256 and the end
-- is at most 4,194,240.
-- Assumes nothing.
use mathlib.Core.Path.{◌≡◌, refl}
use mathlib.Core.Bool.{Bool, true, false, cond, not, ◌&&◌}
use mathlib.Core.List.{List, [], ◌∷◌, ◌++◌}
use Prim.Native.Nat.{ℕ, suc, ◌+◌, ◌*◌, ◌≤◌}
use native.Mathlib.Nat.{add-zero, add_assoc}
use native.Mathlib.Omega.{arith}
use borrow.Author.Tests.{not-true}
use lib.Dec.{eqb}
use lib.ListN.{length}
use Rattle.words.specs.Codec.{word_of}
use Rattle.words.proofs.Tests.{and_left, and_right}
use Rattle.head.specs.Limits.{hk_ticks, length_of, longest}
use Rattle.head.specs.Busy.{is_busy, at_rest}
use Rattle.head.specs.Range.{in_range}
use Rattle.head.specs.Tick.{ticks_of}
use Rattle.head.specs.declared.state.Head.{Head}
use Rattle.head.proofs.Bounds.{bounds, length-bounds}
use Rattle.orders.specs.Codes as code
use Rattle.orders.specs.Words.{Item, items_of, items_of_all}
use Rattle.orders.specs.declared.order.Order.{Order}
use Rattle.plan.specs.Stored.{most_orders}
use Rattle.schedule.specs.Earliest.{delay_of, start_word, hk_word}
use Rattle.schedule.specs.Schedule.{Timed, readied, span_of, sent, schedule_from, Rising}
use Rattle.words.proofs.Allowed.{allowed-bits}
use Rattle.schedule.specs.Clock.{Near, clock_of, clock_after, clock_paused, clock_through, clocked_from, longest_word, longest_order, latest}
use Rattle.schedule.specs.declared.clock.Clock.{Clock}
use Rattle.schedule.specs.Translate.{fit, most_words}
use Rattle.plan.proofs.Accepted.{AllFit}
use Rattle.schedule.proofs.InTurn.{Step, word, wait, InTurn, empty, given, paused, word-kind, word-bits}
use Rattle.schedule.proofs.Orders.{ByOrder, Meant, by_order, by-orders}
use Rattle.schedule.proofs.Ready.{Idle, idle-ticks, wait-most, delay-wait, readied-idle, sent-idle}
use Rattle.schedule.proofs.Clocked.{at_first, clocked, near-after, near-paused, near-more}

-- how many words steps have, and how many ticks they take at most
abbrev pub word_count : List Step → ℕ
word_count [] = 0
word_count (word k b ∷ ms) = suc (word_count ms)
word_count (wait n ∷ ms) = word_count ms

abbrev pub most_ticks : List Step → ℕ
most_ticks [] = 0
most_ticks (word k b ∷ ms) = longest_word + most_ticks ms
most_ticks (wait n ∷ ms) = n + most_ticks ms

words_append : (ms ns : List Step) → word_count (ms ++ ns) ≡ word_count ms + word_count ns
words_append [] ns = omega arith
words_append (word k b ∷ ms) ns = omega (arith, words_append ms ns)
words_append (wait n ∷ ms) ns = words_append ms ns

ticks-append : (ms ns : List Step) → most_ticks (ms ++ ns) ≡ most_ticks ms + most_ticks ns
ticks-append [] ns = omega arith
ticks-append (word k b ∷ ms) ns = omega (arith, ticks-append ms ns)
ticks-append (wait n ∷ ms) ns = omega (arith, ticks-append ms ns)

-- an order has at most 4 words and takes at most 65,535 ticks
abbrev pub Small : ℕ → List Step → Type 0
Small n ms = (word_count ms ≤ 4 * n) × (most_ticks ms ≤ longest_order * n)

small : ByOrder (λ o ms. Small 1 ms)
small =
    record {
      vdetcom = λ a b c d. omega arith;
      vdetadj = λ a b c d. omega arith;
      ir_times = λ a b c d. omega arith;
      ccd_times = λ a b c d. omega arith;
      window_mode = λ a b c d. omega arith;
      window = λ a b c d. omega arith;
      detector = λ a b c d. omega arith;
      ccd_lamp = λ a b c d. omega arith;
      ir_lamp = λ a b c d. omega arith;
      shutter = λ a b c d. omega arith;
      annealing = λ a b c d. omega arith;
      mirror = λ a b c d. omega arith;
      motor = λ a b c d. omega arith;
      cover = λ a b c d p q r s. omega arith;
      expose = λ a b c d. omega arith;
      housekeeping = λ a b c d. omega arith;
      wait = λ a b c d p. omega arith;
    }

pub plan-steps : (os : List Order) → AllFit os → Meant (items_of_all os) (λ ms. Small (length os) ms)
plan-steps =
    by-orders (λ o ms. Small 1 ms) small (λ os ms. Small (length os) ms) (omega arith)
    (λ o os ms ns p q. omega (arith, words_append ms ns, ticks-append ms ns))

-- the clock after an order is near 65,535 ticks later
near-through : {m : ℕ} {is : List Item} {ms : List Step} → InTurn m is ms → (n : ℕ) (c : Clock) → Near n c
    → Near (n + most_ticks ms) (clock_through c is)
unfolding clock_through
near-through empty n c h = rw (add-zero n) h
near-through (given {ms = ms} k b fine turn r) n c h =
    rw (word-kind k b fine, word-bits k b fine, ← add_assoc n longest_word (most_ticks ms))
    (near-through r (n + longest_word) (clock_after c k b) (near-after n c h k b (allowed-bits k b fine)))
near-through (paused {ms = ms} m r) n c h =
    rw (← add_assoc n m (most_ticks ms)) (near-through r (n + m) (clock_paused c m) (near-paused n m c h))

pub near-order : (o : Order) → code.fit o ≡ true → (n : ℕ) (c : Clock) → Near n c
    → Near (n + longest_order) (clock_through c (items_of o))
near-order o f n c h =
    let m = by_order (λ o ms. Small 1 ms) small o f in
    near-more (n + most_ticks m.steps) (n + longest_order) (clock_through c (items_of o)) (omega (arith, m.holds.1))
    (near-through (m.turn 0) n c h)

-- the schedule has a word for each word of the steps, and ends within their ticks
pub count-is : {n : ℕ} {is : List Item} {ms : List Step} → InTurn n is ms → (s : Head) (t : ℕ)
    → length (schedule_from s t is).list ≡ word_count ms
unfolding schedule_from
count-is empty s t = refl
count-is (given k b fine turn r) s t =
    let w = word_of k b in
    let rest = count-is r (sent s w) (t + delay_of s w + span_of (readied s w) w) in
    omega arith
count-is (paused m r) s t = count-is r (ticks_of m s) (t + m)

-- from the tick of a word to the clock after it
pub span-bounds : (s : Head) (w : ℕ) → in_range s ≡ true → (1 ≤ span_of s w) × (span_of s w ≤ longest)
unfolding span_of
span-bounds s w h = go (eqb w start_word) (eqb w hk_word)
  where
    go : (x y : Bool) → (1 ≤ cond x (length_of s.settings) (cond y hk_ticks 1)) × (cond x (length_of s.settings) (cond y hk_ticks 1) ≤ longest)
    go true y = let l = length-bounds s.settings (bounds s h).settings in omega arith
    go false true = omega arith
    go false false = omega arith

pub end-within : {n : ℕ} {is : List Item} {ms : List Step} → InTurn n is ms → (s : Head) → Idle s n → (t : ℕ)
    → (schedule_from s t is).end ≤ t + most_ticks ms
unfolding schedule_from
end-within empty s i t = omega arith
end-within {n} (given k b fine turn r) s i t =
    let w = word_of k b in
    let m = (bounds s i.ranged).motion in
    let d = delay-wait k b n fine turn s i in
    let l = wait-most k s.motion m.mirror m.cover in
    let p = span-bounds (readied s w) w (readied-idle k b n fine turn s i).ranged in
    let rest = end-within r (sent s w) (sent-idle k b n fine turn s i) (t + delay_of s w + span_of (readied s w) w) in
    omega arith
end-within {n} (paused m r) s i t =
    let rest = end-within r (ticks_of m s) (idle-ticks m s n i) (t + m) in
    omega arith

rising-from : (t u : ℕ) (l : List Timed) (end : ℕ) → t ≤ u → Rising u l end → Rising t l end
rising-from t u [] end h r = omega arith
rising-from t u (x ∷ xs) end h r = (omega (arith, r.0), r.1)

pub rising : {n : ℕ} {is : List Item} {ms : List Step} → InTurn n is ms → (s : Head) → Idle s n → (t : ℕ)
    → Rising t (schedule_from s t is).list (schedule_from s t is).end
unfolding schedule_from
rising empty s i t = omega arith
rising {n} (given {is = is} k b fine turn r) s i t =
    let w = word_of k b in
    let u = t + delay_of s w + span_of (readied s w) w in
    let p = span-bounds (readied s w) w (readied-idle k b n fine turn s i).ranged in
    let rest = schedule_from (sent s w) u is in (
      omega arith,
      rising-from (t + delay_of s w + 1) u rest.list rest.end (omega arith) (rising r (sent s w) (sent-idle k b n fine turn s i) u),
    )
rising {n} (paused {is = is} m r) s i t =
    let rest = schedule_from (ticks_of m s) (t + m) is in
    rising-from t (t + m) rest.list rest.end (omega arith) (rising r (ticks_of m s) (idle-ticks m s n i) (t + m))

module _ (s : Head) (h : fit s ≡ true) where
  pub fit-idle : Idle s s.begun.count
  unfolding fit
  fit-idle =
      let most = and_left (in_range s && not (is_busy s)) (at_rest s) h in
      record {
        ranged = and_left (in_range s) (not (is_busy s)) most;
        idle = not-true (is_busy s) (and_right (in_range s) (not (is_busy s)) most);
        count = refl;
      }

  module _ (os : List Order) (all : AllFit os) where
    turn : InTurn s.begun.count (items_of_all os) (plan-steps os all).steps
    turn = (plan-steps os all).turn s.begun.count

    pub plan-clocked : schedule_from s 0 (items_of_all os) ≡ clocked_from (clock_of s 0) (items_of_all os)
    unfolding clock_of
    plan-clocked = clocked turn s fit-idle (clock_of s 0) (at_first s 0)

    pub plan-rising : Rising 0 (schedule_from s 0 (items_of_all os)).list (schedule_from s 0 (items_of_all os)).end
    plan-rising = rising turn s fit-idle 0

    pub plan-count : length os ≤ most_orders → length (schedule_from s 0 (items_of_all os)).list ≤ most_words
    plan-count l = let m = (plan-steps os all).holds.0 in omega (arith, count-is turn s 0)

    pub plan-end : length os ≤ most_orders → (schedule_from s 0 (items_of_all os)).end ≤ latest
    plan-end l = let m = (plan-steps os all).holds.1 in omega (arith, end-within turn s fit-idle 0)
