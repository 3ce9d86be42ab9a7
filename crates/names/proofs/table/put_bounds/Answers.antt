-- `names::table::put_bounds` meets its contract.
use Rattle.layout.proofs.Below.{texts-first, texts-next, texts-done}
use borrow.Author.Rules.{rules}
use Rattle.names.proofs.table.put_bounds.Goals as goal

pub loop-low-init : goal.loop-low-init
loop-low-init c = search (rules, texts-first)

pub loop-low-preserved : goal.loop-low-preserved
loop-low-preserved c = search (rules, texts-next)

pub returns : goal.returns
returns c = search (rules, texts-done)
