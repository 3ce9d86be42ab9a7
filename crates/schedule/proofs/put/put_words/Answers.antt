-- `schedule::put::put_words` meets its contract: an order without words has no ticks.
use mathlib.Core.Path.{refl}
use Rattle.schedule.specs.Filled.{up_from}
use Rattle.schedule.proofs.put.put_words.Goals as goal

pub returns-in-0-clause-ticks_after : goal.returns-in-0-clause-ticks_after
unfolding up_from
returns-in-0-clause-ticks_after c = rw c.in-0.is refl
