-- `head::range::within` meets its contract, number by number.
use Rattle.head.proofs.RowRange.{Within}
use Rattle.head.proofs.range.within.Given as goal

abbrev pub invariant-loop-i : goal.invariant-loop-i
invariant-loop-i l = Within l.row l.limit-items l.i l.excess
