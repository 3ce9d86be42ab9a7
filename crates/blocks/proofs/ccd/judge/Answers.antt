-- `blocks::ccd::judge` meets its contract.
use Rattle.blocks.specs.Ccd.{ccd_judged}
use Rattle.blocks.proofs.Judged.{stops, passes}
use borrow.Author.Rules.{rules}
use Rattle.blocks.proofs.ccd.judge.Goals as goal

pub returns-then-not-allows : goal.returns-then-not-allows
unfolding ccd_judged
returns-then-not-allows c = search (rules, stops, passes)

pub returns-then-not-allows-2 : goal.returns-then-not-allows-2
unfolding ccd_judged
returns-then-not-allows-2 c = search (rules, stops, passes)

pub returns-then-not-allows-3 : goal.returns-then-not-allows-3
unfolding ccd_judged
returns-then-not-allows-3 c = search (rules, stops, passes)

pub returns-then-not-allows-4 : goal.returns-then-not-allows-4
unfolding ccd_judged
returns-then-not-allows-4 c = search (rules, stops, passes)

pub returns : goal.returns
unfolding ccd_judged
returns c = search (rules, passes)
