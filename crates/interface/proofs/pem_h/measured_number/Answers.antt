-- `interface::pem_h::measured_number` meets its contract.
use Rattle.std.proofs.Common.{◌∙◌, rules}
use Rattle.interface.proofs.PemH.{measured-found, measured-refused}
use Rattle.interface.proofs.pem_h.measured_number.Goals as goal

pub returns-in-Ok : goal.returns-in-Ok
returns-in-Ok c = search (rules, measured-found)

pub returns-in-Err : goal.returns-in-Err
returns-in-Err c = measured-refused c.in-Err.is (c.from.ensures ∙ c.number.ensures)
