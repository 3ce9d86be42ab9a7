-- `report::report::order_count` meets its contract.
use mathlib.Core.Path.{◌∙◌}
use Rattle.plan.specs.Stored.{plan_of}
use Rattle.report.proofs.Values.{order-count}
use Rattle.report.proofs.report.order_count.Goals as goal

pub returns : goal.returns
returns c = c.unwrap_or.ensures ∙ rw c.judge.ensures.value (order-count (plan_of c.args.plan.now))
