-- `text::lines::put_end_line` meets its contract.
use Rattle.layout.specs.Numbers.{ascii}
use Rattle.layout.proofs.Adding.{adds_then}
use Rattle.text.specs.Lines.{end_text, end_line}
use Rattle.text.proofs.lines.put_end_line.Goals as goal

pub returns : goal.returns
unfolding end_line end_text ascii
returns c = adds_then (rw c.from.ensures at c.put_named.ensures) c.put_bytes.ensures
