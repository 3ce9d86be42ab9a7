-- `import::read::fill` meets its contract: the lines after the first are stored one after another.
use Rattle.import.proofs.Filling.{after_first, filling-first, filling-next}
use Rattle.import.proofs.read.fill.Goals as goal

pub loop-i-init : goal.loop-i-init
loop-i-init c = filling-first (after_first c.args.text.now c.next-head.result c.next-head.ensures.steps)

pub loop-i-preserved : goal.loop-i-preserved
loop-i-preserved c =
    filling-next c.loop-i.invariant c.loop-i-test.true c.in-Some.ensures.steps c.line_of.ensures c.put_line.ensures.words_after c.put_line.ensures.ticks_after
