-- `picture::raster::eight_from` meets its contract.
use mathlib.Core.Path.{◌≡◌}
use Rattle.picture.specs.Raster.{bits_from}
use Rattle.picture.proofs.raster.eight_from.Given as goal

abbrev pub invariant-loop-j : goal.invariant-loop-j
invariant-loop-j l = l.byte ≡ bits_from l.map l.row l.column l.j
