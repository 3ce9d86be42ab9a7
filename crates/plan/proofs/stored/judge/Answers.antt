-- `plan::stored::judge` meets its contract.
use Rattle.plan.proofs.Judging.{judges, judged-header, judged-orders}
use Rattle.plan.proofs.stored.judge.Goals as goal

pub returns-in-Err : goal.returns-in-Err
returns-in-Err c =
    let w = judges c.args.plan.now (judged-header c.args.plan.now c.in-Err.ensures.value) in
    record { value = w.0; result_value = w.1.0; result_value_2 = w.1.1 }

pub returns : goal.returns
returns c =
    let w = judges c.args.plan.now (judged-orders c.args.plan.now c.in_default.ensures.value c.judge_orders.ensures) in
    record { value = w.0; result_value = w.1.0; result_value_2 = w.1.1 }
