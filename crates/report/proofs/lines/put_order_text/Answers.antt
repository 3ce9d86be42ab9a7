-- `report::lines::put_order_text` meets its contract.
use Rattle.layout.specs.Numbers.{ascii}
use Rattle.report.specs.Lines.{order_template, order_text}
use Rattle.report.proofs.lines.put_order_text.Goals as goal

pub returns : goal.returns
unfolding order_text order_template ascii
returns c = rw c.order_values-values.ensures at c.put_template.ensures
