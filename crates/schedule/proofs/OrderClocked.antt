-- The clock advanced by an order that fits, in one step, as the code advances it; and the ticks of the order's words.
-- Assumes nothing.
use mathlib.Core.Path.{◌≡◌, refl, ap, ◌∙◌}
use mathlib.Core.Bool.{true, cond, ◌&&◌}
use mathlib.Core.List.{List, [], ◌∷◌}
use Prim.Native.Nat.{ℕ, ◌+◌, ◌*◌, ◌≤◌}
use native.Mathlib.Nat.{add_assoc}
use native.Mathlib.Omega.{arith}
use lib.Dec.{eqb}
use lib.ListN.{length}
use mir.Syntax.{w32}
use mir.Val.{Fits}
use Rattle.words.specs.Fields.{steps, cover_bits}
use Rattle.words.specs.Kinds.{most_steps}
use Rattle.head.specs.Limits.{mirror_ticks, cover_step_ticks, hk_ticks}
use Rattle.orders.specs.Codes as code
use Rattle.orders.specs.Codes.{is, fit}
use Rattle.orders.specs.Words.{Item, switch_data, words_of, items_of}
use Rattle.orders.specs.declared.order.Order.{Order}
use Rattle.schedule.specs.Clock.{Near, early, tick_for, first_tick, length_at, set_by, span_at, clock_after, clock_paused, clocked_from, clock_through, longest_motion, longest_order}
use Rattle.schedule.specs.Filled.{order_ticks, up_from}
use Rattle.schedule.specs.Translate.{tick_list}
use Rattle.schedule.specs.declared.clock.Clock.{Clock}
use Rattle.schedule.proofs.InTurn.{Step, word, wait, InTurn, empty, given, paused, word-kind, word-bits}
use Rattle.schedule.proofs.Clocked.{tick-near}
use Rattle.schedule.proofs.Orders.{ByOrder, by_order}

-- from the tick of an order's first word to the clock after it
unfoldable pub order_span : Clock → Order → ℕ
order_span c o =
    cond (is o code.expose) (length_at c)
    (cond (is o code.housekeeping) hk_ticks
    (cond (is o code.wait) o.a (length (words_of o))))

-- the clock after an order; COS L is the fourth of its words
unfoldable pub order_clock : Clock → Order → Clock
order_clock c o =
    let t = first_tick c o.code in
    let d = set_by c o in
    record {
      now = t + order_span c o;
      mirror =
          cond (is o code.mirror) (t + (3 + mirror_ticks)) (cond (is o code.motor && eqb (switch_data o.a) 0) (t + mirror_ticks) c.mirror);
      cover = cond (is o code.cover) (t + cover_step_ticks * o.d) c.cover;
      mode = d.mode;
      irdelay = d.irdelay;
      irexpo = d.irexpo;
      ccddelay = d.ccddelay;
      ccdexpo = d.ccdexpo;
    }

-- the clock after steps, and the ticks of their words
abbrev clock_by : Clock → List Step → Clock
clock_by c [] = c
clock_by c (word k b ∷ ms) = clock_by (clock_after c k b) ms
clock_by c (wait n ∷ ms) = clock_by (clock_paused c n) ms

abbrev ticks_by : Clock → List Step → List ℕ
ticks_by c [] = []
ticks_by c (word k b ∷ ms) = tick_for c k ∷ ticks_by (clock_after c k b) ms
ticks_by c (wait n ∷ ms) = ticks_by (clock_paused c n) ms

clock-by : {m : ℕ} {is : List Item} {ms : List Step} → InTurn m is ms → (c : Clock) → clock_through c is ≡ clock_by c ms
unfolding clock_through
clock-by empty c = refl
clock-by (given k b fine turn r) c = rw (word-kind k b fine, word-bits k b fine) (clock-by r (clock_after c k b))
clock-by (paused n r) c = clock-by r (clock_paused c n)

ticks-by : {m : ℕ} {is : List Item} {ms : List Step} → InTurn m is ms → (c : Clock) → tick_list (clocked_from c is) ≡ ticks_by c ms
unfolding clocked_from
ticks-by empty c = refl
ticks-by (given k b fine turn r) c =
    rw (word-kind k b fine, word-bits k b fine) (ap (λ (l : List ℕ). tick_for c k ∷ l) (ticks-by r (clock_after c k b)))
ticks-by (paused n r) c = ticks-by r (clock_paused c n)

two : (t : ℕ) → t + 1 + 1 ≡ t + 2
two t = omega arith

three : (t : ℕ) → t + 1 + 1 + 1 ≡ t + 3
three t = omega arith

four : (t : ℕ) → t + 1 + 1 + 1 + 1 ≡ t + 4
four t = omega arith

-- the steps of an order advance the clock so, and their words go one tick after another
abbrev Clocked : Order → List Step → Type 0
Clocked o ms = (c : Clock) → (clock_by c ms ≡ order_clock c o) × (ticks_by c ms ≡ up_from (first_tick c o.code) (length (words_of o)))

by_codes : ByOrder Clocked
unfolding tick_for span_at clock_after clock_paused up_from first_tick set_by order_span order_clock words_of
by_codes =
    record {
      vdetcom = λ a b c d k. (rw (two k.now), refl);
      vdetadj = λ a b c d k. (rw (two k.now), refl);
      ir_times = λ a b c d k. (rw (two k.now), refl);
      ccd_times = λ a b c d k. (rw (two k.now), refl);
      window_mode = λ a b c d k. (refl, refl);
      window = λ a b c d k. (rw (four k.now), refl);
      detector = λ a b c d k. (refl, refl);
      ccd_lamp = λ a b c d k. (refl, refl);
      ir_lamp = λ a b c d k. (refl, refl);
      shutter = λ a b c d k. (refl, refl);
      annealing = λ a b c d k. (refl, refl);
      mirror = λ a b c d k. (rw (four k.now, three k.now, add_assoc k.now 3 mirror_ticks), refl);
      motor = λ a b c d k. (refl, refl);
      cover = λ a b c d p q r s k. (rw (cover-steps a b c d s), refl);
      expose = λ a b c d k. (refl, refl);
      housekeeping = λ a b c d k. (refl, refl);
      wait = λ a b c d p k. (refl, refl);
    }
  where
    cover-steps : (a b c d : ℕ) → d ≤ most_steps → steps (cover_bits a b c d) ≡ d
    cover-steps a b c d h = omega arith

module _ (o : Order) (f : fit o ≡ true) (c : Clock) where
  pub clock-is : clock_through c (items_of o) ≡ order_clock c o
  clock-is = let m = by_order Clocked by_codes o f in clock-by (m.turn 0) c ∙ (m.holds c).0

  pub ticks-are : order_ticks c o ≡ up_from (first_tick c o.code) (length (words_of o))
  ticks-are = let m = by_order Clocked by_codes o f in ticks-by (m.turn 0) c ∙ (m.holds c).1

-- the tick of an order's first word, and what the code adds to it
module _ (c : Clock) (near : Near early c) (k t : ℕ) (tick : t ≡ first_tick c k) where
  pub first-near : t ≤ early + longest_motion
  unfolding first_tick
  first-near = rw tick (tick-near early c near _)

  pub sum_fits : (n : ℕ) → n ≤ cover_step_ticks * longest_order → Fits w32 (t + n)
  sum_fits n h = record { fits = omega (arith, first-near) }
