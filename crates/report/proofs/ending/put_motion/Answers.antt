-- `report::ending::put_motion` meets its contract: part by part.
use Rattle.layout.specs.Numbers.{ascii}
use Rattle.layout.proofs.Adding.{adds_then}
use Rattle.report.specs.Ending.{mirror_template, cover_template, motion_text}
use Rattle.report.proofs.ending.put_motion.Goals as goal

pub returns : goal.returns
unfolding motion_text mirror_template cover_template ascii
returns c = adds_then (rw c.bit-mirror_moves.ensures at c.put_template.ensures) (rw c.bit-cover_moves.ensures at c.put_template-2.ensures)
