-- `report::lines::put_orders` meets its contract. The loop's invariant: k orders have been passed.
use Rattle.plan.specs.Stored.{plan_of, orders_in}
use Rattle.report.proofs.Walked.{Walked}
use Rattle.report.proofs.lines.put_orders.Given as goal

abbrev pub invariant-loop-k : goal.invariant-loop-k
invariant-loop-k l =
    Walked l.initial.writer l.plan (orders_in (plan_of l.plan)) l.count l.ticks l.rows l.initial.before l.writer l.at l.words l.acts l.before l.k
