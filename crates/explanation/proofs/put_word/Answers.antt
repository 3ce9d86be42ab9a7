-- `explanation::put_word` meets its contract.
use Rattle.layout.proofs.Adding.{adds_then}
use Rattle.explanation.proofs.put_word.Goals as goal

pub returns : goal.returns
returns c = adds_then c.put_bytes.ensures (rw c.hex4.ensures at c.put_bytes-2.ensures)
