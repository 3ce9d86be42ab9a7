-- `names::table::put_word` meets its contract.
use Rattle.layout.proofs.Adding.{adds_then}
use Rattle.names.proofs.table.put_word.Goals as goal

pub returns : goal.returns
returns c = adds_then c.put_byte.ensures (rw c.hex4.ensures at c.put_bytes.ensures)
