-- `names::table::put_rows`: the texts of the bytes below this one are added.
use Rattle.layout.proofs.Below.{TextsAdded}
use Rattle.names.specs.Table.{row_text}
use Rattle.names.proofs.table.put_rows.Given as goal

abbrev pub invariant-loop-byte : goal.invariant-loop-byte
invariant-loop-byte l = TextsAdded row_text 256 l.initial.writer l.writer l.byte
