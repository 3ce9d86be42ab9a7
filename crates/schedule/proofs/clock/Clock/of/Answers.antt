-- `schedule::clock::Clock::of` meets its contract.
use native.Mathlib.Nat.{zero-add}
use Rattle.schedule.specs.Clock.{clock_of}
use Rattle.schedule.proofs.clock.Clock.of.Goals as goal

pub returns : goal.returns
unfolding clock_of
returns c = simp zero-add
