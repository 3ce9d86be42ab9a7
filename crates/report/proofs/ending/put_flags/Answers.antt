-- `report::ending::put_flags` meets its contract: part by part.
use Rattle.layout.specs.Numbers.{ascii}
use Rattle.layout.proofs.Adding.{adds_then}
use Rattle.report.specs.Ending.{flags_template, since_template, flags_text}
use Rattle.report.proofs.ending.put_flags.Goals as goal

pub returns : goal.returns
unfolding flags_text flags_template since_template ascii
returns c = adds_then (rw c.flag_values-values.ensures at c.put_template.ensures) (rw (c.bit-same.ensures, c.same_flags.ensures) at c.put_template-2.ensures)
