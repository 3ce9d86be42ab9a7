-- `schedule::clock::Clock::length` meets its contract.
use Rattle.schedule.specs.Clock.{length_at}
use Rattle.schedule.proofs.clock.Clock.length.Goals as goal

pub returns : goal.returns
unfolding length_at
returns c = c.acquisition_ticks.ensures
