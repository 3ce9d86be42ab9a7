-- `schedule::clock::Clock::first_tick` meets its contract.
use borrow.Author.Tests.{ne_eqb}
use Rattle.schedule.specs.Clock.{first_tick, tick_for}
use Rattle.schedule.proofs.clock.Clock.first_tick.Goals as goal

pub returns-then-code-eq-EXPOSE : goal.returns-then-code-eq-EXPOSE
unfolding first_tick tick_for
returns-then-code-eq-EXPOSE c = rw (c.if-code-eq-EXPOSE.true, c.max-then-code-eq-EXPOSE.ensures, c.max.ensures)

pub returns-then-code-eq-COVER : goal.returns-then-code-eq-COVER
unfolding first_tick tick_for
returns-then-code-eq-COVER c = rw (c.if-code-eq-COVER.true, c.max-then-code-eq-COVER.ensures)

pub returns : goal.returns
unfolding first_tick tick_for
returns c =
    let n = c.args.code in
    rw (ne_eqb n 15 c.if-code-eq-EXPOSE.false, ne_eqb n 14 c.if-code-eq-COVER.false)
