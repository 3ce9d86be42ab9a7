-- `names::table::upper_bytes` meets its contract.
use Rattle.layout.specs.Numbers.{ascii}
use Rattle.names.proofs.Rows.{table-front}
use borrow.Author.Rules.{rules}
use Rattle.names.proofs.table.upper_bytes.Goals as goal

pub returns : goal.returns
unfolding ascii
returns c = search (rules, table-front)
