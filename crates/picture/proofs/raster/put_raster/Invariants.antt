-- `picture::raster::put_raster`: the texts below this one are added.
use Rattle.layout.proofs.Below.{TextsAdded}
use Rattle.pixels.specs.Map.{rows}
use Rattle.picture.specs.Raster.{row_text}
use Rattle.picture.proofs.raster.put_raster.Given as goal

abbrev pub invariant-loop-row : goal.invariant-loop-row
invariant-loop-row l = TextsAdded (row_text l.map) rows l.initial.writer l.writer l.row
