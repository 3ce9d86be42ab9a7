-- `head::state::Head::set` meets its contract: the register of its name, and no other number.
use Rattle.head.proofs.RowSet.{register-set}
use borrow.Author.Rules.{rules}
use Rattle.head.proofs.state.Head.set.Goals as goal

pub returns : goal.returns
returns c = search (rules, register-set)
