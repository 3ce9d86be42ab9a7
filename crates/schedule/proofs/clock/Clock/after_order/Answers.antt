-- `schedule::clock::Clock::after_order` meets its contract, code by code.
use mathlib.Core.Path.{◌≡◌}
use native.Mathlib.Omega.{arith}
use borrow.Author.Rules.{rules}
use borrow.Author.Tests.{eq-eqb, ne_eqb}
use Rattle.orders.specs.Words.{switch_data}
use Rattle.schedule.specs.Clock.{early, length_at, set_by}
use Rattle.schedule.proofs.Clocked.{length_most}
use Rattle.schedule.proofs.OrderClocked.{order_span, order_clock, clock-is, sum_fits}
use Rattle.schedule.proofs.OrderLaid.{fit-few}
use Rattle.schedule.proofs.clock.Clock.after_order.Goals as goal

pub overflow_add-self : goal.overflow_add-self
overflow_add-self c = let p = c.requires in sum_fits _ p.order_value_2 _ _ p.tick_value_1 _ (omega (arith, fit-few c.args.order p.order_value_1))

pub overflow_add-self-in-15 : goal.overflow_add-self-in-15
unfolding length_at
overflow_add-self-in-15 c =
    let p = c.requires in
    sum_fits _ p.order_value_2 _ _ p.tick_value_1 _ (omega (arith, length_most early c.args.self p.order_value_2))

pub overflow_add-self-in-16 : goal.overflow_add-self-in-16
overflow_add-self-in-16 c = let p = c.requires in sum_fits _ p.order_value_2 _ _ p.tick_value_1 _ (omega arith)

pub overflow_add-self-in-17 : goal.overflow_add-self-in-17
overflow_add-self-in-17 c = let p = c.requires in sum_fits _ p.order_value_2 _ _ p.tick_value_1 _ (omega arith)

pub overflow_add-self-in-12-2 : goal.overflow_add-self-in-12-2
overflow_add-self-in-12-2 c = let p = c.requires in sum_fits _ p.order_value_2 _ _ p.tick_value_1 _ (omega arith)

pub returns-then-order-eq0 : goal.returns-then-order-eq0
unfolding order_clock order_span set_by
returns-then-order-eq0 c =
    let a = c.args in
    let p = c.requires in
    rw (clock-is a.order p.order_value_1 a.self, p.tick_value_1, p.tick_value_2, c.in-13.is, c.if-order-eq0.true)

pub overflow_add-self-in-13 : goal.overflow_add-self-in-13
overflow_add-self-in-13 c = let p = c.requires in sum_fits _ p.order_value_2 _ _ p.tick_value_1 _ (omega arith)

pub overflow_add-self-in-14 : goal.overflow_add-self-in-14
overflow_add-self-in-14 c = let p = c.requires in sum_fits _ p.order_value_2 _ _ p.tick_value_1 _ (omega arith)

pub returns-in-15 : goal.returns-in-15
unfolding order_clock order_span set_by length_at
returns-in-15 c =
    let a = c.args in
    let p = c.requires in
    rw (clock-is a.order p.order_value_1 a.self, p.tick_value_1, c.in-15.is, c.length-ticks.ensures)

pub returns-in-16 : goal.returns-in-16
unfolding order_clock order_span set_by
returns-in-16 c =
    let a = c.args in
    let p = c.requires in
    rw (clock-is a.order p.order_value_1 a.self, p.tick_value_1, c.in-16.is)

pub returns-in-17 : goal.returns-in-17
unfolding order_clock order_span set_by
returns-in-17 c =
    let a = c.args in
    let p = c.requires in
    rw (clock-is a.order p.order_value_1 a.self, p.tick_value_1, c.in-17.is)

pub returns-in-12 : goal.returns-in-12
unfolding order_clock order_span set_by
returns-in-12 c =
    let a = c.args in
    let p = c.requires in
    rw (clock-is a.order p.order_value_1 a.self, p.tick_value_1, p.tick_value_2, c.in-12.is)

pub returns-else-order-eq0 : goal.returns-else-order-eq0
unfolding order_clock order_span set_by
returns-else-order-eq0 c =
    let a = c.args in
    let p = c.requires in
    rw (clock-is a.order p.order_value_1 a.self, p.tick_value_1, p.tick_value_2, c.in-13.is, eq-eqb (switch_data a.order.a) 0 (omega (arith, c.if-order-eq0.false)))

pub returns-in-14 : goal.returns-in-14
unfolding order_clock order_span set_by
returns-in-14 c =
    let a = c.args in
    let p = c.requires in
    rw (clock-is a.order p.order_value_1 a.self, p.tick_value_1, p.tick_value_2, c.in-14.is)

pub returns-in_default : goal.returns-in_default
unfolding order_clock order_span set_by
returns-in_default c =
    let a = c.args in
    let p = c.requires in
    let n = a.order.code in
    let not-12 : n ≡ 12 → ⊥ = search rules in
    let not-13 : n ≡ 13 → ⊥ = search rules in
    let not-14 : n ≡ 14 → ⊥ = search rules in
    let not-15 : n ≡ 15 → ⊥ = search rules in
    let not-16 : n ≡ 16 → ⊥ = search rules in
    let not-17 : n ≡ 17 → ⊥ = search rules in
    rw (
      clock-is a.order p.order_value_1 a.self,
      c.set_by.ensures,
      p.tick_value_1,
      p.tick_value_2,
      ne_eqb n 14 not-14,
      ne_eqb n 13 not-13,
      ne_eqb n 12 not-12,
      ne_eqb n 17 not-17,
      ne_eqb n 16 not-16,
      ne_eqb n 15 not-15,
    )
