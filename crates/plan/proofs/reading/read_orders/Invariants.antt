-- `plan::reading::read_orders` meets its contract. The loop's invariant: k orders have been read.
use Rattle.plan.specs.Stored.{plan_of, orders_in}
use Rattle.plan.proofs.Logging.{Logging}
use Rattle.plan.proofs.reading.read_orders.Given as goal

abbrev pub invariant-loop-k : goal.invariant-loop-k
invariant-loop-k l =
    Logging l.initial.rows l.plan (orders_in (plan_of l.plan)) l.count l.initial.settings l.rows l.settings l.at l.acts l._k
