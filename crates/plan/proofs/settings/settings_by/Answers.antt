-- `plan::settings::settings_by` meets its contract: each code sets its registers.
use native.Mathlib.Omega.{arith}
use Rattle.plan.specs.Reading.{settings_by}
use Rattle.plan.proofs.Registers.{motor-most, settings-same}
use borrow.Author.Rules.{rules}
use Rattle.plan.proofs.settings.settings_by.Goals as goal

pub overflow_sub-settings : goal.overflow_sub-settings
overflow_sub-settings c =
    let o = c.args.order in
    omega (arith, motor-most o c.requires c.in-13.is)

pub returns-in-1 : goal.returns-in-1
unfolding settings_by
returns-in-1 c = rw c.in-1.is

pub returns-in-2 : goal.returns-in-2
unfolding settings_by
returns-in-2 c = rw c.in-2.is

pub returns-in-3 : goal.returns-in-3
unfolding settings_by
returns-in-3 c = rw c.in-3.is

pub returns-in-4 : goal.returns-in-4
unfolding settings_by
returns-in-4 c = rw c.in-4.is

pub returns-in-5 : goal.returns-in-5
unfolding settings_by
returns-in-5 c = rw c.in-5.is

pub returns-in-6 : goal.returns-in-6
unfolding settings_by
returns-in-6 c = rw c.in-6.is

pub returns-in-7 : goal.returns-in-7
unfolding settings_by
returns-in-7 c = rw c.in-7.is

pub returns-in-8 : goal.returns-in-8
unfolding settings_by
returns-in-8 c = rw (c.in-8.is, c.switched.ensures)

pub returns-in-9 : goal.returns-in-9
unfolding settings_by
returns-in-9 c = rw (c.in-9.is, c.switched-in-9.ensures)

pub returns-in-10 : goal.returns-in-10
unfolding settings_by
returns-in-10 c = rw (c.in-10.is, c.switched-in-10.ensures)

pub returns-in-11 : goal.returns-in-11
unfolding settings_by
returns-in-11 c = rw (c.in-11.is, c.switched-in-11.ensures)

pub returns-in-12 : goal.returns-in-12
unfolding settings_by
returns-in-12 c = rw (c.in-12.is, c.sine_register.ensures)

pub returns-in-13 : goal.returns-in-13
unfolding settings_by
returns-in-13 c = rw c.in-13.is

pub returns-in-14 : goal.returns-in-14
unfolding settings_by
returns-in-14 c = rw c.in-14.is

pub returns-in_default : goal.returns-in_default
returns-in_default c = settings-same c.args.order (search rules) _
