-- `report::lines::put_orders` meets its contract. The loop's invariant: k orders have been passed.
use mathlib.Core.Path.{sym, ◌∙◌}
use native.Mathlib.Omega.{arith}
use Rattle.report.proofs.Walked.{walked-first, order-whole, order_is, order-ends, words-few, act-one, walked_next, walked-done}
use borrow.Author.Rules.{rules}
use Rattle.report.proofs.lines.put_orders.Goals as goal

pub loop-k-init : goal.loop-k-init
loop-k-init c = search (rules, walked-first)

pub unwrap-order-requires : goal.unwrap-order-requires
unwrap-order-requires c = rw (c.checked_at.ensures.value ∙ sym (order-whole c.loop-k.invariant (search rules)))

pub overflow_add-words : goal.overflow_add-words
overflow_add-words c =
    let at = c.loop-k in
    let is = order_is at.invariant (search rules) (sym c.unwrap-order.ensures ∙ c.checked_at.ensures.value) in
    let small = at.invariant.small in
    omega (arith, words-few at.invariant (search rules), rw is at c.word_count-words.ensures)

pub overflow_add-acts : goal.overflow_add-acts
overflow_add-acts c = let one = act-one _ c.act_count-acts.ensures in let few = c.loop-k.invariant.few in omega arith

pub overflow_add-at : goal.overflow_add-at
overflow_add-at c = omega (arith, order-ends c.loop-k.invariant (search rules))

pub overflow_add-at-in-loop-k : goal.overflow_add-at-in-loop-k
overflow_add-at-in-loop-k c = omega (arith, order-ends c.loop-k.invariant (search rules), c.byte_at.ensures)

pub loop-k-preserved : goal.loop-k-preserved
loop-k-preserved c =
    let at = c.loop-k in
    let is = order_is at.invariant (search rules) (sym c.unwrap-order.ensures ∙ c.checked_at.ensures.value) in
    walked_next at.invariant (search rules) is c.word_count-words.ensures c.last_tick-tick.ensures c.put_order.ensures c.exposed_after-before.ensures c.act_count-acts.ensures c.byte_at.ensures

pub returns : goal.returns
returns c = search (rules, walked-done)
