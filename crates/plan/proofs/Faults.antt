-- Faults and their numbers: each number that a plan is refused with is in document 01's table.
-- Assumes nothing.
use mathlib.Core.Path.{◌≡◌, refl, sym, ◌∙◌}
use mathlib.Core.Bool.{Bool, true, false, cond, not, ◌||◌, true≢false}
use mathlib.Core.List.{List, []}
use Prim.Native.Nat.{ℕ, zero, suc, ◌+◌}
use native.Mathlib.Decide.{ℕ_discrete}
use borrow.Author.Tests.{eq-eqb, ne_eqb}
use lib.Dec.{eqb, ltb}
use lib.ListN.{length}
use Rattle.std.specs.Prelude.{Ok, Err}
use Rattle.orders.specs.Codes.{known, length_of, fields_fit}
use Rattle.orders.specs.declared.order.Order.{Order}
use Rattle.plan.specs.Stored.{Plan, orders, refused, byte_at, pair_at, order_at, fault_at, before, header_fault, orders_from, most_orders, plan_of, plan_number, plan_place}
use Rattle.plan.specs.Judged.{fault_number, fault_of, unless_fault, judged_of, judged_number, judged_place}
use Rattle.plan.specs.declared.stored.Fault.{Fault}
use Rattle.plan.specs.declared.stored.Fault.TheVariants.{TooShort, OtherVersion, PlanLength, OrderLength, UnknownCode, CodeLength, FieldRange, TooMany}

pub fault_of-number : (f : Fault) → fault_of (fault_number f) ≡ f
unfolding fault_of
fault_of-number TooShort = refl
fault_of-number OtherVersion = refl
fault_of-number PlanLength = refl
fault_of-number OrderLength = refl
fault_of-number UnknownCode = refl
fault_of-number CodeLength = refl
fault_of-number FieldRange = refl
fault_of-number TooMany = refl

number-some : (f : Fault) → eqb (fault_number f) 0 ≡ false
number-some TooShort = refl
number-some OtherVersion = refl
number-some PlanLength = refl
number-some OrderLength = refl
number-some UnknownCode = refl
number-some CodeLength = refl
number-some FieldRange = refl
number-some TooMany = refl

-- an answer that is given unless there is a fault
module _ {T : Type 0} (n : ℕ) (x : T) where
  pub unless-none : {y : T} → 0 ≡ n → y ≡ x → Ok y ≡ unless_fault n x
  unfolding unless_fault
  unless-none none is = rw (← none, is)

  pub unless-some : (f : Fault) → fault_number f ≡ n → Err f ≡ unless_fault n x
  unfolding unless_fault
  unless-some f is = rw (← is, number-some f, fault_of-number f)

  ways : (P : Type 0) → (n ≡ 0 → unless_fault n x ≡ Ok x → P) → ((n ≡ 0 → ⊥) → unless_fault n x ≡ Err (fault_of n) → P) → P
  unfolding unless_fault
  ways P none some = go (ℕ_discrete n 0)
    where
      go : Dec (n ≡ 0) → P
      go (yes e) = none e (rw (eq-eqb n 0 e))
      go (no ne) = some ne (rw (ne_eqb n 0 ne))

  module _ {y : T} (ok : Ok y ≡ unless_fault n x) where
    pub ok-none : n ≡ 0
    ok-none = ways (n ≡ 0) (λ e is. e) (λ ne is. cc)

    pub ok-is : y ≡ x
    ok-is = ways (y ≡ x) (λ e is. cc) (λ ne is. cc)

  module _ {f : Fault} (err : Err f ≡ unless_fault n x) where
    pub err-some : n ≡ 0 → ⊥
    err-some = ways (n ≡ 0 → ⊥) (λ e is. cc) (λ ne is. ne)

    pub err-is : f ≡ fault_of n
    err-is = ways (f ≡ fault_of n) (λ e is. cc) (λ ne is. cc)

-- the number is one of the table, or the plan is accepted
abbrev pub Listed : ℕ → Type 0
Listed n = fault_number (fault_of n) ≡ n

abbrev pub Stated : Plan → Type 0
Stated (orders os) = Unit {0}
Stated (refused n p) = Listed n

fault_at-listed : (bs : List ℕ) (at : ℕ) → (fault_at bs at ≡ 0 → ⊥) → Listed (fault_at bs at)
unfolding fault_at fault_of
fault_at-listed bs at =
    go (eqb (byte_at bs at) 0 || ltb (length bs) (at + 1 + byte_at bs at)) (not (known (byte_at bs (at + 1))))
    (not (eqb (byte_at bs at) (length_of (byte_at bs (at + 1))))) (not (fields_fit (order_at bs at)))
  where
    number : Bool → Bool → Bool → Bool → ℕ
    number a b c d = cond a 5 (cond b 6 (cond c 7 (cond d 8 0)))

    go : (a b c d : Bool) → (number a b c d ≡ 0 → ⊥) → Listed (number a b c d)
    go true b c d some = refl
    go false true c d some = refl
    go false false true d some = refl
    go false false false true some = refl
    go false false false false some = absurd (some refl)

header_fault-listed : (bs : List ℕ) → (header_fault bs ≡ 0 → ⊥) → Listed (header_fault bs)
unfolding header_fault fault_of
header_fault-listed bs = go (ltb (length bs) 3) (not (eqb (byte_at bs 0) 1)) (not (eqb (length bs) (3 + pair_at bs 1)))
  where
    number : Bool → Bool → Bool → ℕ
    number a b c = cond a 2 (cond b 3 (cond c 4 0))

    go : (a b c : Bool) → (number a b c ≡ 0 → ⊥) → Listed (number a b c)
    go true b c some = refl
    go false true c some = refl
    go false false true some = refl
    go false false false some = absurd (some refl)

before-stated : (o : Order) (p : Plan) → Stated p → Stated (before o p)
before-stated o (orders os) h = tt
before-stated o (refused n p) h = h

orders_from-stated : (n : ℕ) (bs : List ℕ) (at : ℕ) → Stated (orders_from n bs at)
unfolding orders_from fault_of
orders_from-stated zero bs at = go (ltb at (length bs))
  where
    go : (more : Bool) → Stated (cond more (refused 9 at) (orders []))
    go true = refl
    go false = tt
orders_from-stated (suc n) bs at =
    go (ltb at (length bs)) (eqb (fault_at bs at) 0) refl (orders_from-stated n bs (at + 1 + byte_at bs at))
  where
    rest : Plan
    rest = orders_from n bs (at + 1 + byte_at bs at)

    go : (more none : Bool) → eqb (fault_at bs at) 0 ≡ none → Stated rest
        → Stated (cond more (cond none (before (order_at bs at) rest) (refused (fault_at bs at) at)) (orders []))
    go false none e h = tt
    go true true e h = before-stated (order_at bs at) rest h
    go true false e h = fault_at-listed bs at (λ z. true≢false (sym (eq-eqb (fault_at bs at) 0 z) ∙ e))

pub plan_of-stated : (bs : List ℕ) → Stated (plan_of bs)
unfolding plan_of
plan_of-stated bs = go (eqb (header_fault bs) 0) refl
  where
    go : (none : Bool) → eqb (header_fault bs) 0 ≡ none → Stated (cond none (orders_from most_orders bs 3) (refused (header_fault bs) 0))
    go true e = orders_from-stated most_orders bs 3
    go false e = header_fault-listed bs (λ z. true≢false (sym (eq-eqb (header_fault bs) 0 z) ∙ e))

-- the judge's answer for a plan tells the refusal's number and place
pub judged-number : (p : Plan) → Stated p → judged_number (judged_of p) ≡ plan_number p
unfolding judged_of
judged-number (orders os) h = refl
judged-number (refused n q) h = h

pub judged-place : (p : Plan) → judged_place (judged_of p) ≡ plan_place p
unfolding judged_of
judged-place (orders os) = refl
judged-place (refused n q) = refl
