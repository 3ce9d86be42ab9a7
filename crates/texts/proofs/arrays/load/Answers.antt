-- `texts::arrays::load` meets its contract.
use Rattle.interface.proofs.Arrays.{head-is}
use borrow.Author.Rules.{rules}
use Rattle.texts.proofs.arrays.load.Goals as goal

pub returns : goal.returns
returns c = search (rules, head-is)
