-- `import::read::fill`: i lines have been stored, and the others are left.
use Rattle.import.specs.Read.{lines}
use Rattle.import.proofs.Filling.{Filling}
use Rattle.import.proofs.read.fill.Given as goal

abbrev pub invariant-loop-i : goal.invariant-loop-i
invariant-loop-i l = Filling l.text l.count l.initial.words l.initial.ticks l.words l.ticks (lines l.lines.rest.now) l.i
