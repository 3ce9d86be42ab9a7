-- `interface::why::packed_why` meets its contract.
use Rattle.interface.proofs.Packing.{packed-parts}
use borrow.Author.Rules.{rules}
use Rattle.interface.proofs.why.packed_why.Goals as goal

pub returns : goal.returns
returns c = search (rules, packed-parts)
