-- `interface::pem_h::meaning_number` meets its contract.
use Rattle.std.proofs.Common.{◌∙◌}
use Rattle.interface.proofs.PemH.{meaning-found, meaning-refused}
use Rattle.interface.proofs.pem_h.meaning_number.Goals as goal

pub returns-in-Ok : goal.returns-in-Ok
returns-in-Ok c =
    meaning-found c.in-Ok.is (c.from.ensures ∙ c.request.ensures.value) (c.from-in-Ok.ensures ∙ c.value.ensures)

pub returns-in-Err : goal.returns-in-Err
returns-in-Err c = meaning-refused c.in-Err.is (c.from-in-Err.ensures ∙ c.number.ensures)
