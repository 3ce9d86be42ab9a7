-- `schedule::translate::copy_out` meets its contract.
use Rattle.schedule.proofs.Copying.{copying-first, copying-next, copied}
use Rattle.schedule.proofs.translate.copy_out.Goals as goal

pub loop-i-init : goal.loop-i-init
loop-i-init c =
    let p = c.requires in
    record { words_copied = copying-first p.fact_1 p.fact_3; ticks_copied = copying-first p.fact_2 p.fact_4 }

pub loop-i-preserved : goal.loop-i-preserved
loop-i-preserved c =
    let inv = c.loop-i.invariant in
    record { words_copied = copying-next inv.words_copied c.loop-i-test.true; ticks_copied = copying-next inv.ticks_copied c.loop-i-test.true }

pub returns : goal.returns
returns c =
    record { words_after = copied c.loop-i.invariant.words_copied c.loop-i-test.false; ticks_after = copied c.loop-i.invariant.ticks_copied c.loop-i-test.false }
