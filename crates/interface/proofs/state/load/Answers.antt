-- `interface::state::load` meets its contract.
use Rattle.interface.proofs.RoundTrip.{loaded}
use borrow.Author.Rules.{rules}
use Rattle.interface.proofs.state.load.Goals as goal

pub returns : goal.returns
returns c = search (rules, loaded)
