-- `interface::state::store_head` meets its contract.
use Rattle.interface.proofs.Arrays.{stored_there, stored-none}
use borrow.Author.Rules.{rules}
use Rattle.interface.proofs.state.store_head.Goals as goal

pub returns-then-s-eq-PLACES : goal.returns-then-s-eq-PLACES
returns-then-s-eq-PLACES c = search (rules, stored_there)

pub returns-else-s-eq-PLACES : goal.returns-else-s-eq-PLACES
returns-else-s-eq-PLACES c = search (rules, stored-none)
