-- `import::read::judge` meets its contract: every line is judged.
use Rattle.import.proofs.Whole.{judging-first, judging-next, judging-done}
use Rattle.import.proofs.read.judge.Goals as goal

pub loop-line-init : goal.loop-line-init
loop-line-init c = rw c.into_iter-line-iterator.ensures.into_iter_gives (judging-first c.args.text.now c.begin-progress.ensures)

pub loop-line-preserved : goal.loop-line-preserved
loop-line-preserved c = judging-next c.loop-line.invariant c.in-Some.ensures.steps c.judged-progress.ensures

pub returns : goal.returns
returns c = judging-done c.loop-line.invariant c.in-None.ensures.steps.0
