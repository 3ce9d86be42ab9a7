-- `schedule::translate::lay` meets its contract. The loop's invariant: k orders have been judged and laid.
use native.Mathlib.Omega.{arith}
use Rattle.plan.proofs.Faults.{ok-none, ok-is}
use Rattle.schedule.proofs.OnePass.{passing-many, passing-fault, passing-fits, passing-early, passing-fit-words, passing-fit-ticks, passing-next, passing-end, passing-words, passing-ticks}
use Rattle.schedule.proofs.translate.lay.Goals as goal

pub returns-then-k-ge-MOST_ORDERS : goal.returns-then-k-ge-MOST_ORDERS
returns-then-k-ge-MOST_ORDERS c =
    record { value = passing-many c.loop-at.invariant (omega arith) (omega arith); when_done = tt; when_done_2 = tt }

pub returns-in-Err : goal.returns-in-Err
returns-in-Err c =
    record {
      value = passing-fault c.loop-at.invariant (omega arith) (omega arith) c.in-Err.ensures.value;
      when_done = tt;
      when_done_2 = tt;
    }

pub put_order-placed-requires : goal.put_order-placed-requires
put_order-placed-requires c =
    let at = c.loop-at in
    let more = c.loop-at-test.true in
    let room = c.if-k-ge-MOST_ORDERS.false in
    let whole = ok-none _ _ c.in-Ok.ensures.value in
    let order = ok-is _ _ c.in-Ok.ensures.value in
    record {
      order_value_1 = rw order (passing-fits at.invariant more room whole);
      order_value_2 = passing-early at.invariant more room whole;
      order_in_bounds_1 = rw order (passing-fit-words at.invariant more room whole c.requires.fact_1);
      order_in_bounds_2 = rw order (passing-fit-ticks at.invariant more room whole c.requires.fact_2);
    }

pub loop-at-preserved : goal.loop-at-preserved
loop-at-preserved c =
    let at = c.loop-at in
    let more = c.loop-at-test.true in
    let room = c.if-k-ge-MOST_ORDERS.false in
    let whole = ok-none _ _ c.in-Ok.ensures.value in
    let put = c.put_order-placed in
    let e = rw (ok-is _ _ c.in-Ok.ensures.value) at put.ensures in
    rw c.byte_at.ensures (passing-next at.invariant more room whole e.clock_value.0 e.clock_value.1 e.words_after e.ticks_after)

pub returns : goal.returns
returns c =
    record {
      value = passing-end c.loop-at.invariant (omega arith);
      when_done = passing-words c.loop-at.invariant (omega arith);
      when_done_2 = passing-ticks c.loop-at.invariant (omega arith);
    }
