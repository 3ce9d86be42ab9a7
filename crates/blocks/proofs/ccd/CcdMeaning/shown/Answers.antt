-- `blocks::ccd::CcdMeaning::shown` meets its contract.
use Rattle.blocks.specs.Ccd.{ccd_shown}
use Rattle.blocks.proofs.ccd.CcdMeaning.shown.Goals as goal

pub returns : goal.returns
unfolding ccd_shown
returns c = rw c.in_word.ensures
