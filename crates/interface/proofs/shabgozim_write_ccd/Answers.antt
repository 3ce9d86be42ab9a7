-- `interface::shabgozim_write_ccd` meets its contract.
use mathlib.Core.Path.{ap}
use mathlib.Core.Bool.{not}
use Rattle.blocks.specs.Ccd.{ccd_block_of}
use Rattle.interface.specs.Blocks.{ccd_block_for}
use Rattle.interface.proofs.Ways.{long}
use Rattle.interface.proofs.Writing.{few-number, few-left, unfit-number, unfit-left, ill-number, ill-left, written-answer, written-left}
use borrow.Author.Rules.{rules}
use Rattle.interface.proofs.shabgozim_write_ccd.Goals as goal

pub returns-then-readings-ne-CCD_READINGS : goal.returns-then-readings-ne-CCD_READINGS
returns-then-readings-ne-CCD_READINGS c = search (rules, few-number, few-left)

pub returns-then-block-ne-CCD_WORDS : goal.returns-then-block-ne-CCD_WORDS
returns-then-block-ne-CCD_WORDS c = search (rules, unfit-number, unfit-left)

pub returns-then-not-well_formed : goal.returns-then-not-well_formed
returns-then-not-well_formed c = search (rules, ill-number, ill-left)

pub load-head-requires : goal.load-head-requires
load-head-requires c = long _ _ c.before.well_formed-2.ensures (ap not c.if-not-well_formed.false)

pub returns : goal.returns
unfolding ccd_block_for
returns c = search (rules, written-answer, written-left ccd_block_of)
