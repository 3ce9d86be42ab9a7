-- `due::write_due` meets its contract.
use Rattle.std.proofs.Common.{◌≡◌, ◌∙◌, ap, refl, inl, inr}
use Rattle.std.specs.Prelude.{Some}
use denote.Enum.Bare.{sameb}
use Rattle.head.specs.contracts.state.Task as task
use Rattle.head.specs.declared.state.Task.{Task}
use Rattle.head.specs.declared.state.Task.TheVariants.{Idle, Acquisition, Housekeeping}
use Rattle.due.specs.Due.{acquisition, due_written_of, due_number, ir_due_after, ccd_due_after}
use Rattle.due.proofs.write_due.Goals as goal

is_acquisition : (t : Task) → sameb task.the_type t Acquisition ≡ acquisition t
unfolding acquisition
is_acquisition Idle = refl
is_acquisition Acquisition = refl
is_acquisition Housekeeping = refl

pub returns-in-Blocks : goal.returns-in-Blocks
unfolding due_written_of due_number ir_due_after ccd_due_after
returns-in-Blocks c =
    let told = c.in-Blocks.is in
    let both = c.write_both.ensures in
    let acquired : c.eq-acquired.result ≡ acquisition c.in-Blocks.ended = c.eq-acquired.ensures ∙ is_acquisition c.in-Blocks.ended in
    record {
      value = rw told (ap Some both.value);
      number = rw told both.number;
      place = both.place;
      ir_after = rw told (rw (both.value, acquired) at both.ir_after);
      ccd_after = rw told (rw (both.value, acquired) at both.ccd_after);
    }

pub returns-in-Nothing : goal.returns-in-Nothing
unfolding due_written_of due_number ir_due_after ccd_due_after
returns-in-Nothing c =
    elim c.in-Nothing.is [
      | inl told ↦ record { value = rw told; number = rw told; place = refl; ir_after = rw told; ccd_after = rw told }
      | inr told ↦ record { value = rw told; number = rw told; place = refl; ir_after = rw told; ccd_after = rw told }
    ]
