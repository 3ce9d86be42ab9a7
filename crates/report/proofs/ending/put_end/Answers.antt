-- `report::ending::put_end` meets its contract: part by part.
use Rattle.layout.specs.Numbers.{ascii}
use Rattle.layout.proofs.Adding.{adds_then}
use Rattle.report.specs.Ending.{end_template, end_text}
use Rattle.report.proofs.ending.put_end.Goals as goal

pub returns : goal.returns
unfolding end_text end_template ascii
returns c = adds_then c.put_template.ensures c.put_settings.ensures
