-- `blocks::ccd::CcdMeaning::status` meets its contract.
use Rattle.blocks.specs.Ccd.{ccd_status}
use Rattle.blocks.proofs.ccd.CcdMeaning.status.Goals as goal

pub returns : goal.returns
unfolding ccd_status
returns c = rw (c.word-2.ensures, c.word.ensures)
