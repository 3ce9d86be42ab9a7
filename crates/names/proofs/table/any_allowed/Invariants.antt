-- `names::table::any_allowed`: whether a word below the lower byte is allowed.
use Rattle.names.proofs.Ranges.{AnyFound}
use Rattle.names.proofs.table.any_allowed.Given as goal

abbrev pub invariant-loop-low : goal.invariant-loop-low
invariant-loop-low l = AnyFound l.byte l.any l.low
