-- `report::opening::put_opening` meets its contract: part by part.
use Rattle.layout.proofs.Adding.{adds_then}
use Rattle.report.specs.Opening.{opening_text}
use Rattle.report.proofs.opening.put_opening.Goals as goal

pub returns : goal.returns
unfolding opening_text
returns c = adds_then (rw c.is_power_on-on.ensures at c.put_plan.ensures) c.put_start.ensures
