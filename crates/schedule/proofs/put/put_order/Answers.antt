-- `schedule::put::put_order` meets its contract.
use native.Mathlib.Omega.{arith}
use Rattle.schedule.proofs.OrderClocked.{first-near, ticks-are}
use Rattle.schedule.proofs.OrderLaid.{fit-few, given-words, given-count}
use Rattle.schedule.proofs.put.put_order.Goals as goal

pub put_words-requires : goal.put_words-requires
put_words-requires c =
    let words = c.words-sent in
    let tick = c.first_tick-tick in
    let count = given-count c.args.order c.requires.order_value_1 words.result words.ensures in
    let few = fit-few c.args.order c.requires.order_value_1 in
    let near = first-near c.args.clock c.requires.order_value_2 c.args.order.code tick.result tick.ensures in
    record {
      count_bound = omega arith;
      tick_bound = omega arith;
      count_in_bounds_1 = omega arith;
      count_in_bounds_2 = omega arith;
    }

pub overflow_cast-sent : goal.overflow_cast-sent
overflow_cast-sent c =
    let words = c.words-sent in
    let count = given-count c.args.order c.requires.order_value_1 words.result words.ensures in
    let few = fit-few c.args.order c.requires.order_value_1 in
    omega arith

pub after_order-requires : goal.after_order-requires
after_order-requires c =
    let words = c.words-sent in
    let tick = c.first_tick-tick in
    record {
      order_value_1 = c.requires.order_value_1;
      order_value_2 = c.requires.order_value_2;
      tick_value_1 = tick.ensures;
      tick_value_2 = given-count c.args.order c.requires.order_value_1 words.result words.ensures;
    }

pub overflow_add-result : goal.overflow_add-result
overflow_add-result c =
    let words = c.words-sent in
    omega (arith, given-count c.args.order c.requires.order_value_1 words.result words.ensures, c.requires.order_in_bounds_1)

pub returns : goal.returns
returns c =
    let o = c.args.order in
    let words = c.words-sent in
    let tick = c.first_tick-tick in
    let put = c.put_words.ensures in
    let all = given-words o c.requires.order_value_1 words.result words.ensures in
    let count = given-count o c.requires.order_value_1 words.result words.ensures in
    record {
      clock_value = (c.after_order.ensures, rw count);
      words_after = rw all at put.words_after;
      ticks_after = rw (ticks-are o c.requires.order_value_1 c.args.clock) (rw (count, tick.ensures) at put.ticks_after);
    }
