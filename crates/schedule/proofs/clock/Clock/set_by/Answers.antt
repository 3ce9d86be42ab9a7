-- `schedule::clock::Clock::set_by` meets its contract.
use mathlib.Core.Path.{◌≡◌}
use borrow.Author.Rules.{rules}
use borrow.Author.Tests.{ne_eqb}
use Rattle.schedule.specs.Clock.{set_by}
use Rattle.schedule.proofs.clock.Clock.set_by.Goals as goal

pub returns-in-5 : goal.returns-in-5
unfolding set_by
returns-in-5 c = rw c.in-5.is

pub returns-in-3 : goal.returns-in-3
unfolding set_by
returns-in-3 c = rw c.in-3.is

pub returns-in-4 : goal.returns-in-4
unfolding set_by
returns-in-4 c = rw c.in-4.is

pub returns-in_default : goal.returns-in_default
unfolding set_by
returns-in_default c =
    let n = c.args.order.code in
    let not-4 : n ≡ 4 → ⊥ = search rules in
    let not-3 : n ≡ 3 → ⊥ = search rules in
    let not-5 : n ≡ 5 → ⊥ = search rules in
    rw (ne_eqb n 4 not-4, ne_eqb n 3 not-3, ne_eqb n 5 not-5)
