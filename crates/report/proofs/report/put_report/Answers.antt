-- `report::report::put_report` meets its contract: opening, orders and ending.
use Rattle.layout.proofs.Adding.{adds_three}
use Rattle.report.specs.Report.{text_of}
use Rattle.report.proofs.report.put_report.Goals as goal

pub returns : goal.returns
unfolding text_of
returns c = adds_three (rw c.order_count-orders.ensures at c.put_opening.ensures) c.put_orders.ensures c.put_ending.ensures
