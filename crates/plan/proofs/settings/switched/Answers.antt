-- `plan::settings::switched` meets its contract, and the value fits.
use native.Mathlib.Omega.{arith}
use Rattle.plan.proofs.Registers.{current-most}
use Rattle.plan.proofs.settings.switched.Goals as goal

pub overflow_mul-result : goal.overflow_mul-result
overflow_mul-result c =
    let p = c.requires in
    omega (arith, current-most c.args.order p.fact_3 p.fact_1 p.fact_2)

pub overflow_add-result : goal.overflow_add-result
overflow_add-result c =
    let p = c.requires in
    omega (arith, current-most c.args.order p.fact_3 p.fact_1 p.fact_2)
