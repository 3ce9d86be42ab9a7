-- `run::compare::agrees` meets its contract.
use Rattle.plan.specs.Stored.{plan_of}
use Rattle.run.proofs.Agreeing.{agree-refused, agree-other, agree-compared}
use Rattle.run.proofs.compare.agrees.Goals as goal

pub returns-in_default : goal.returns-in_default
returns-in_default c =
    let a = c.args in
    agree-refused a.settings (plan_of a.plan.now) a.rows.now a.acts c.requires.fact_2 c.in_default.ensures.value

pub returns-then-read_acts-acts : goal.returns-then-read_acts-acts
returns-then-read_acts-acts c =
    let a = c.args in
    agree-other a.settings (plan_of a.plan.now) a.rows.now a.acts c.requires.fact_2 c.in-Ok.ensures.value c.if-read_acts-acts.true

pub returns : goal.returns
returns c =
    let a = c.args in
    agree-compared a.settings (plan_of a.plan.now) a.rows.now a.acts c.requires.fact_2 c.in-Ok.ensures.value c.if-read_acts-acts.false _ c.read_plan.ensures.rows_after c.eq.ensures
