-- `texts::arrays::store` meets its contract.
use Rattle.interface.proofs.Arrays.{stored_is}
use borrow.Author.Rules.{rules}
use Rattle.texts.proofs.arrays.store.Goals as goal

pub returns : goal.returns
returns c = search (rules, stored_is)
