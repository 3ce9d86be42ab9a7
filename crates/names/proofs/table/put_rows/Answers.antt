-- `names::table::put_rows` meets its contract.
use Rattle.layout.proofs.Below.{texts-first, texts-next, texts-done}
use borrow.Author.Rules.{rules}
use Rattle.names.proofs.table.put_rows.Goals as goal

pub loop-byte-init : goal.loop-byte-init
loop-byte-init c = search (rules, texts-first)

pub loop-byte-preserved : goal.loop-byte-preserved
loop-byte-preserved c = search (rules, texts-next)

pub returns : goal.returns
returns c = search (rules, texts-done)
