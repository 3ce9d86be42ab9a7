-- `plan::reading::read_plan` meets its contract.
use Rattle.std.proofs.lemmas.Result.{err_from_is_err_and}
use Rattle.plan.specs.Stored.{plan_of}
use Rattle.plan.proofs.Accepted.{judged-accepted, judged-count}
use Rattle.plan.proofs.Logging.{read-value, read-rows, refused-value, refused-rows}
use borrow.Author.Rules.{rules}
use Rattle.plan.proofs.reading.read_plan.Goals as goal

pub returns-in_err-count-clause-value : goal.returns-in_err-count-clause-value
returns-in_err-count-clause-value c =
    let p = err_from_is_err_and c.from_residual.result c.from_residual.ensures.1 in
    rw (p.1, p.2) (refused-value c.args.settings c.args.plan.now c.in_err-count.ensures.value)

pub returns-in_err-count-clause-rows_after : goal.returns-in_err-count-clause-rows_after
returns-in_err-count-clause-rows_after c = refused-rows c.args.settings c.args.plan.now c.in_err-count.ensures.value c.args.rows.now

pub read_orders-requires-clause-fact_1 : goal.read_orders-requires-clause-fact_1
read_orders-requires-clause-fact_1 c = judged-accepted (plan_of c.args.plan.now) c.in_ok-count.ensures.value

pub read_orders-requires-clause-fact_2 : goal.read_orders-requires-clause-fact_2
read_orders-requires-clause-fact_2 c = judged-count (plan_of c.args.plan.now) c.in_ok-count.ensures.value

pub returns-clause-value : goal.returns-clause-value
returns-clause-value c = read-value c.args.settings c.args.plan.now c.in_ok-count.ensures.value c.read_orders.ensures.value

pub returns-clause-rows_after : goal.returns-clause-rows_after
returns-clause-rows_after c = read-rows c.args.settings c.args.plan.now c.in_ok-count.ensures.value c.args.rows.now (search rules) c.read_orders.ensures.rows_after
