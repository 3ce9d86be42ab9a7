-- `requests::table::Row::is_allowed` meets its contract.
use Rattle.std.proofs.Common.{rules}
use Rattle.requests.specs.Requests.{allows}
use Rattle.requests.proofs.table.Row.is_allowed.Goals as goal

pub returns : goal.returns
unfolding allows
returns c = search rules
