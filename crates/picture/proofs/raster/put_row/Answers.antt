-- `picture::raster::put_row` meets its contract.
use Rattle.layout.proofs.Below.{texts-first, texts-next}
use Rattle.picture.proofs.Rows.{byte-added, row_done}
use borrow.Author.Rules.{rules}
use Rattle.picture.proofs.raster.put_row.Goals as goal

pub loop-k-init : goal.loop-k-init
loop-k-init c = search (rules, texts-first)

pub loop-k-preserved : goal.loop-k-preserved
loop-k-preserved c = search (rules, texts-next, byte-added)

pub returns : goal.returns
returns c = search (rules, row_done)
