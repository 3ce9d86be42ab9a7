-- `report::opening::put_start` meets its contract: part by part.
use Rattle.layout.specs.Numbers.{ascii}
use Rattle.layout.proofs.Adding.{adds_three}
use Rattle.report.specs.Opening.{start_template, title_template, start_text}
use Rattle.report.proofs.opening.put_start.Goals as goal

pub returns : goal.returns
unfolding start_text start_template title_template ascii
returns c = adds_three (rw c.flag_values-raised.ensures at c.put_template.ensures) c.put_settings.ensures c.put_template-2.ensures
