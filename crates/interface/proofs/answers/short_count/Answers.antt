-- `interface::answers::short_count` meets its contract.
use Rattle.interface.specs.Plans.{count_in}
use Rattle.interface.proofs.answers.short_count.Goals as goal

pub returns-in-StateUnfit : goal.returns-in-StateUnfit
unfolding count_in
returns-in-StateUnfit c = rw c.in-StateUnfit.is

pub returns-in-Plan : goal.returns-in-Plan
unfolding count_in
returns-in-Plan c = rw c.in-Plan.is

pub returns-in-Short : goal.returns-in-Short
unfolding count_in
returns-in-Short c = rw c.in-Short.is
