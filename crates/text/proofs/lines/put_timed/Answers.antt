-- `text::lines::put_timed` meets its contract.
use Rattle.layout.specs.Numbers.{ascii}
use Rattle.layout.proofs.Adding.{adds_three}
use Rattle.text.specs.Lines.{timed_text}
use Rattle.text.proofs.lines.put_timed.Goals as goal

pub returns : goal.returns
unfolding timed_text ascii
returns c = adds_three c.put_decimal.ensures c.put_bytes.ensures (rw c.hex4.ensures at c.put_bytes-2.ensures)
