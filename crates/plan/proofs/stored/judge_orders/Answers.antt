-- `plan::stored::judge_orders` meets its contract. The loop's invariant: the whole answer is that of the orders from here on, the ones
-- passed counted. The measure is what is left of the bytes.
use borrow.Author.Rules.{rules}
use Rattle.plan.proofs.Judging.{counted_none, judged-end, judged-many, judged-fault, judged-next}
use Rattle.plan.proofs.stored.judge_orders.Goals as goal

pub loop-at-init : goal.loop-at-init
loop-at-init c = search (rules, counted_none)

pub returns-then-count-ge-MOST_ORDERS : goal.returns-then-count-ge-MOST_ORDERS
returns-then-count-ge-MOST_ORDERS c = search (rules, judged-many)

pub returns-in-Err : goal.returns-in-Err
returns-in-Err c = search (rules, judged-fault)

pub loop-at-preserved : goal.loop-at-preserved
loop-at-preserved c = search (rules, judged-next)

pub returns : goal.returns
returns c = search (rules, judged-end)
