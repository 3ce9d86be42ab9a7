-- `interface::state::head_of` meets its contract.
use Rattle.interface.proofs.Arrays.{head-there, head-none}
use Rattle.interface.proofs.state.head_of.Goals as goal

pub returns-then-s-eq-PLACES : goal.returns-then-s-eq-PLACES
returns-then-s-eq-PLACES c = head-there _ c.if-s-eq-PLACES.true c.load.ensures

pub returns : goal.returns
returns c = head-none _ c.if-s-eq-PLACES.false c.power_on.ensures
