-- `import::line::value`: the digits from the next on are left.
use Rattle.import.proofs.Counting.{Counting}
use Rattle.import.proofs.line.value.Given as goal

abbrev pub invariant-loop-digit : goal.invariant-loop-digit
invariant-loop-digit l = Counting l.base l.digits l.n l.digit-index
