-- `interface::pem_h::request_number` meets its contract.
use Rattle.std.proofs.Common.{◌∙◌, rules}
use Rattle.interface.proofs.PemH.{request-made, request-refused}
use Rattle.interface.proofs.pem_h.request_number.Goals as goal

pub returns-in-Ok : goal.returns-in-Ok
returns-in-Ok c = search (rules, request-made)

pub returns-in-Err : goal.returns-in-Err
returns-in-Err c = request-refused c.in-Err.is (c.from-in-Err.ensures ∙ c.number.ensures)
