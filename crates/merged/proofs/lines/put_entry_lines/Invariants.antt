-- `merged::lines::put_entry_lines`: the lines from the next on are left.
use lib.ListN.{drop}
use Rattle.layout.proofs.Adding.{Partly}
use Rattle.merged.specs.Text.{entry_lines}
use Rattle.merged.proofs.lines.put_entry_lines.Given as goal

abbrev pub invariant-loop-entry : goal.invariant-loop-entry
invariant-loop-entry l = Partly l.initial.writer (entry_lines l.entries) (entry_lines (drop l.entry-index l.entries)) l.writer
