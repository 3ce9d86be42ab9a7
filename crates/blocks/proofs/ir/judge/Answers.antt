-- `blocks::ir::judge` meets its contract.
use Rattle.status.specs.Status.{lamp_shutter_right, ir_flags_right}
use Rattle.blocks.specs.Ir.{ir_judged, ir_said}
use Rattle.blocks.proofs.Judged.{stops, passes}
use borrow.Author.Rules.{rules}
use Rattle.blocks.proofs.ir.judge.Goals as goal

pub returns-then-not-lines_right : goal.returns-then-not-lines_right
unfolding ir_judged lamp_shutter_right ir_flags_right
returns-then-not-lines_right c = search (rules, stops, passes)

pub returns-then-not-allows : goal.returns-then-not-allows
unfolding ir_judged lamp_shutter_right ir_flags_right
returns-then-not-allows c = search (rules, stops, passes)

pub returns-then-not-allows-2 : goal.returns-then-not-allows-2
unfolding ir_judged lamp_shutter_right ir_flags_right
returns-then-not-allows-2 c = search (rules, stops, passes)

pub returns-then-not-right : goal.returns-then-not-right
unfolding ir_judged lamp_shutter_right ir_flags_right
returns-then-not-right c = search (rules, stops, passes)

pub returns-then-not-right-2 : goal.returns-then-not-right-2
unfolding ir_judged lamp_shutter_right ir_flags_right
returns-then-not-right-2 c = search (rules, stops, passes)

pub returns : goal.returns
unfolding ir_judged ir_said lamp_shutter_right ir_flags_right
returns c = rw (c.in_word-2.ensures, c.in_word.ensures, c.choose.ensures) (search (rules, passes))
