-- `plan::stored::checked_at` meets its contract.
use Rattle.plan.proofs.Bytes.{fault-none, fault-empty, fault_past, fault-unknown, fault-length, fault-nothing, fault-field, fields-room, order-fields}
use Rattle.plan.proofs.Faults.{unless-none, unless-some}
use native.Mathlib.Omega.{arith}
use borrow.Author.Rules.{rules}
use Rattle.plan.proofs.stored.checked_at.Goals as goal

pub returns-then-plan-at : goal.returns-then-plan-at
returns-then-plan-at c = record { value = unless-some _ _ _ (search (rules, fault-none)); number = search (rules, fault-none) }

pub returns-then-size-eq0 : goal.returns-then-size-eq0
returns-then-size-eq0 c = record { value = unless-some _ _ _ (search (rules, fault-empty)); number = search (rules, fault-empty) }

pub returns-then-plan-at-2 : goal.returns-then-plan-at-2
returns-then-plan-at-2 c = record { value = unless-some _ _ _ (fault_past _ _ (omega arith)); number = fault_past _ _ (omega arith) }

pub returns-then-not-known : goal.returns-then-not-known
returns-then-not-known c = record { value = unless-some _ _ _ (search (rules, fault-unknown)); number = search (rules, fault-unknown) }

pub returns-then-size-length : goal.returns-then-size-length
returns-then-size-length c = record { value = unless-some _ _ _ (search (rules, fault-length)); number = search (rules, fault-length) }

pub fields_at-order-requires : goal.fields_at-order-requires
fields_at-order-requires c = search (rules, fields-room)

pub returns-then-fields_fit : goal.returns-then-fields_fit
returns-then-fields_fit c = record { value = unless-none _ _ (search (rules, fault-nothing, order-fields)) (search (rules, order-fields)); number = search (rules, fault-nothing, order-fields) }

pub returns-else-fields_fit : goal.returns-else-fields_fit
returns-else-fields_fit c = record { value = unless-some _ _ _ (search (rules, fault-field, order-fields)); number = search (rules, fault-field, order-fields) }
