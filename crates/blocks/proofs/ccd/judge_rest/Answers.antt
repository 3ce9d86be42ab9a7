-- `blocks::ccd::judge_rest` meets its contract.
use Rattle.status.specs.Status.{sine_right, vis_flags_right}
use Rattle.blocks.specs.Ccd.{ccd_rest_judged, ccd_said}
use Rattle.blocks.proofs.Judged.{stops, passes}
use borrow.Author.Rules.{rules}
use Rattle.blocks.proofs.ccd.judge_rest.Goals as goal

pub returns-then-not-allows : goal.returns-then-not-allows
unfolding ccd_rest_judged sine_right vis_flags_right
returns-then-not-allows c = search (rules, stops, passes)

pub returns-then-not-allows-2 : goal.returns-then-not-allows-2
unfolding ccd_rest_judged sine_right vis_flags_right
returns-then-not-allows-2 c = search (rules, stops, passes)

pub returns-then-not-right : goal.returns-then-not-right
unfolding ccd_rest_judged sine_right vis_flags_right
returns-then-not-right c = search (rules, stops, passes)

pub returns-then-not-cosine_right : goal.returns-then-not-cosine_right
unfolding ccd_rest_judged sine_right vis_flags_right
returns-then-not-cosine_right c = search (rules, stops, passes)

pub returns-then-not-right-2 : goal.returns-then-not-right-2
unfolding ccd_rest_judged sine_right vis_flags_right
returns-then-not-right-2 c = search (rules, stops, passes)

pub returns : goal.returns
unfolding ccd_rest_judged ccd_said sine_right vis_flags_right
returns c = rw (c.in_word-2.ensures, c.in_word.ensures) (search (rules, passes))
