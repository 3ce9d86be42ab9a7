-- `report::ending::put_ending` meets its contract: part by part.
use Rattle.layout.proofs.Adding.{adds_three}
use Rattle.report.specs.Ending.{ending_text}
use Rattle.report.proofs.ending.put_ending.Goals as goal

pub returns : goal.returns
unfolding ending_text
returns c = adds_three c.put_end.ensures c.put_motion.ensures c.put_checks.ensures
