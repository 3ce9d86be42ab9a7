-- `names::table::put_row` meets its contract.
use Rattle.layout.specs.Numbers.{ascii}
use Rattle.layout.proofs.Adding.{adds_four}
use Rattle.names.specs.Table.{row_text}
use Rattle.names.proofs.table.put_row.Goals as goal

pub returns : goal.returns
unfolding row_text ascii
returns c = adds_four c.put_gap.ensures c.put_name.ensures c.put_ranges.ensures c.put_byte.ensures
