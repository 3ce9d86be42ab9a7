-- `names::table::put_name` meets its contract.
use Rattle.layout.specs.Numbers.{ascii}
use Rattle.layout.proofs.Adding.{adds_three}
use Rattle.names.specs.Table.{name_text}
use Rattle.names.proofs.table.put_name.Goals as goal

pub returns : goal.returns
unfolding name_text ascii
returns c = adds_three c.put_digits.ensures c.put_bytes.ensures (rw c.kind_of_byte.ensures at c.put_kind.ensures)
