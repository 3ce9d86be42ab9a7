-- `interface::state::well_formed` meets its contract.
use mathlib.Core.Path.{refl}
use Rattle.interface.specs.State.{well_formed}
use Rattle.interface.proofs.state.well_formed.Goals as goal

pub returns : goal.returns
unfolding well_formed
returns c = refl
