-- `merged::printed::put_parts` meets its contract.
use Rattle.layout.specs.Numbers.{ascii}
use Rattle.layout.proofs.Adding.{adds_three}
use Rattle.text.specs.Lines.{head_text, head_line}
use Rattle.merged.proofs.printed.put_parts.Goals as goal

pub returns : goal.returns
unfolding head_line head_text ascii
returns c = adds_three c.put_bytes.ensures c.put_entry_lines.ensures c.put_entry_lines-2.ensures
