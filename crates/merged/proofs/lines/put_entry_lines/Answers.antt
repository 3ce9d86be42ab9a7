-- `merged::lines::put_entry_lines` meets its contract.
use native.Mathlib.Omega.{arith}
use borrow.Author.Rules.{rules}
use Rattle.layout.proofs.Adding.{partly-first}
use Rattle.merged.proofs.LineByLine.{lines-left-next, lines-added}
use Rattle.merged.proofs.lines.put_entry_lines.Goals as goal

pub loop-entry-init : goal.loop-entry-init
loop-entry-init c = search (rules, partly-first)

pub loop-entry-preserved : goal.loop-entry-preserved
loop-entry-preserved c =
    lines-left-next c.args.entries.now c.loop-entry.entry-index c.loop-entry.invariant (omega arith) c.put_entry_line.ensures

pub returns : goal.returns
returns c = lines-added c.args.entries.now c.loop-entry.entry-index c.loop-entry.invariant (omega arith)
