-- Document 01, "Plans": what reading an order and judging a plan answer.
-- Assumes nothing.
use Rattle.std.specs.Prelude.{ℕ, cond, List, eqb, length, Result, Ok, Err}
use Rattle.orders.specs.declared.order.Order.{Order}
use Rattle.plan.specs.Stored.{Plan, orders, refused, order_at, fault_at, header_fault}
use Rattle.plan.specs.declared.stored.Fault.{Fault}
use Rattle.plan.specs.declared.stored.Fault.TheVariants.{TooShort, OtherVersion, PlanLength, OrderLength, UnknownCode, CodeLength, FieldRange, TooMany}
use Rattle.plan.specs.declared.stored.Refusal.{Refusal}

-- The refusal table's number of a fault.
abbrev pub fault_number : Fault → ℕ
fault_number TooShort = 2
fault_number OtherVersion = 3
fault_number PlanLength = 4
fault_number OrderLength = 5
fault_number UnknownCode = 6
fault_number CodeLength = 7
fault_number FieldRange = 8
fault_number TooMany = 9

-- The fault that has a number of that table (law `fault_of-number`). A plan is refused with no other number (law `plan_of-stated`).
unfoldable pub fault_of : ℕ → Fault
fault_of n =
    cond (eqb n 2) TooShort
    (cond (eqb n 3) OtherVersion
    (cond (eqb n 4) PlanLength
    (cond (eqb n 5) OrderLength
    (cond (eqb n 6) UnknownCode
    (cond (eqb n 7) CodeLength
    (cond (eqb n 8) FieldRange TooMany))))))

abbrev pub refusal_number : Refusal → ℕ
refusal_number r = fault_number r.fault

-- An answer where the number of what is wrong is 0, and that fault otherwise.
unfoldable pub unless_fault : {T : Type 0} → ℕ → T → Result T Fault
unless_fault n x = cond (eqb n 0) (Ok x) (Err (fault_of n))

-- The number of what is wrong, 0 for nothing.
abbrev pub checked_number : {T : Type 0} → Result T Fault → ℕ
checked_number (Ok x) = 0
checked_number (Err f) = fault_number f

-- The order at a place, where nothing is wrong with it.
abbrev pub checked_at : List ℕ → ℕ → Result Order Fault
checked_at bs at = unless_fault (fault_at bs at) (order_at bs at)

-- Nothing, where nothing is wrong before the orders.
abbrev pub checked_header : List ℕ → Result (Unit {0}) Fault
checked_header bs = unless_fault (header_fault bs) tt

-- The refusal by a number of document 01 and a byte place.
abbrev pub refusal_of : ℕ → ℕ → Refusal
refusal_of n p = record { fault = fault_of n; place = p }

-- The number of orders of an accepted plan, or the refusal.
unfoldable pub judged_of : Plan → Result ℕ Refusal
judged_of (orders os) = Ok (length os)
judged_of (refused n p) = Err (refusal_of n p)

-- The refusal's number of document 01, 0 for none, and its byte place.
abbrev pub judged_number : Result ℕ Refusal → ℕ
judged_number (Ok n) = 0
judged_number (Err r) = refusal_number r

abbrev pub judged_place : Result ℕ Refusal → ℕ
judged_place (Ok n) = 0
judged_place (Err r) = r.place
