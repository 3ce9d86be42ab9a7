-- `text::lines::put_refusal_line` meets its contract.
use Rattle.layout.specs.Numbers.{ascii}
use Rattle.layout.proofs.Adding.{adds_three}
use Rattle.text.specs.Lines.{refusal_line}
use Rattle.text.proofs.lines.put_refusal_line.Goals as goal

pub returns : goal.returns
unfolding refusal_line ascii
returns c = adds_three (rw c.from.ensures at c.put_named.ensures) c.put_named-2.ensures c.put_bytes.ensures
