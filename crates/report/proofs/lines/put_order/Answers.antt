-- `report::lines::put_order` meets its contract: the place, and what the order does.
use Rattle.layout.proofs.Adding.{adds_then}
use Rattle.report.specs.Lines.{order_line}
use Rattle.report.proofs.lines.put_order.Goals as goal

pub returns-then-is_act : goal.returns-then-is_act
unfolding order_line
returns-then-is_act c = rw (← c.is_act.ensures, c.if-is_act.true) (adds_then c.put_place.ensures c.put_act.ensures)

pub returns : goal.returns
unfolding order_line
returns c = rw (← c.is_act.ensures, c.if-is_act.false) (adds_then c.put_place.ensures c.put_order_text.ensures)
