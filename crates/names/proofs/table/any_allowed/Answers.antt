-- `names::table::any_allowed` meets its contract.
use Rattle.names.proofs.Ranges.{any-first, any_next, any-done}
use borrow.Author.Rules.{rules}
use Rattle.names.proofs.table.any_allowed.Goals as goal

pub loop-low-init : goal.loop-low-init
loop-low-init c = search (rules, any-first)

pub loop-low-preserved : goal.loop-low-preserved
loop-low-preserved c = search (rules, any_next)

pub returns : goal.returns
returns c = search (rules, any-done)
