-- `text::lines::put_timed_line` meets its contract.
use Rattle.layout.specs.Numbers.{ascii}
use Rattle.layout.proofs.Adding.{adds_then}
use Rattle.text.specs.Lines.{word_line}
use Rattle.text.proofs.lines.put_timed_line.Goals as goal

pub returns : goal.returns
unfolding word_line ascii
returns c = adds_then c.put_timed.ensures c.put_bytes.ensures
