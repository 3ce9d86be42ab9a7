-- `import::read::judge`: the lines that the iterator has left are judged next.
use Rattle.import.specs.Read.{lines}
use Rattle.import.proofs.Whole.{Judging}
use Rattle.import.proofs.read.judge.Given as goal

abbrev pub invariant-loop-line : goal.invariant-loop-line
invariant-loop-line l = Judging l.text l.progress (lines l.line-iterator.rest.now)
