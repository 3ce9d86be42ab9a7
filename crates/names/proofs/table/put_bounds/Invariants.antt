-- `names::table::put_bounds`: the texts of the bytes below this one are added.
use Rattle.layout.proofs.Below.{TextsAdded}
use Rattle.names.specs.Table.{bound_text}
use Rattle.names.proofs.table.put_bounds.Given as goal

abbrev pub invariant-loop-low : goal.invariant-loop-low
invariant-loop-low l = TextsAdded (bound_text l.byte) 256 l.initial.writer l.writer l.low
