-- `requests::table::table` meets its contract.
use Rattle.requests.specs.Parameters.{composed, mode_fields, lamp_fields, cover_fields}
use Rattle.requests.specs.Requests.{rows}
use borrow.Author.Rules.{rules}
use Rattle.requests.proofs.table.table.Goals as goal

pub returns : goal.returns
unfolding rows composed mode_fields lamp_fields cover_fields
returns c = search rules
