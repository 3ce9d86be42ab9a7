-- `picture::raster::put_row`: the texts below this one are added.
use Rattle.layout.proofs.Below.{TextsAdded}
use Rattle.picture.specs.Raster.{byte_text, row_bytes}
use Rattle.picture.proofs.raster.put_row.Given as goal

abbrev pub invariant-loop-k : goal.invariant-loop-k
invariant-loop-k l = TextsAdded (byte_text l.map l.row) row_bytes l.initial.writer l.writer l.k
