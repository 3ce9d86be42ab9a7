-- `picture::raster::put_raster` meets its contract.
use Rattle.layout.proofs.Below.{texts-first, texts-next}
use Rattle.picture.proofs.Rows.{raster-done}
use borrow.Author.Rules.{rules}
use Rattle.picture.proofs.raster.put_raster.Goals as goal

pub loop-row-init : goal.loop-row-init
loop-row-init c = search (rules, texts-first)

pub loop-row-preserved : goal.loop-row-preserved
loop-row-preserved c = search (rules, texts-next)

pub returns : goal.returns
returns c = search (rules, raster-done)
