-- `report::ending::put_checks` meets its contract: part by part.
use Rattle.layout.proofs.Adding.{adds_three}
use Rattle.report.specs.Ending.{checks_text}
use Rattle.report.proofs.ending.put_checks.Goals as goal

pub returns : goal.returns
unfolding checks_text
returns c = adds_three c.put_words.ensures c.put_flags.ensures c.put_reading.ensures
