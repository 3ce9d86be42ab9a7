-- How the loop over the orders judges a plan.
-- Assumes nothing.
use mathlib.Core.Path.{◌≡◌, refl, ap}
use mathlib.Core.List.{List, []}
use Rattle.std.specs.Prelude.{Result, Ok, Err}
use Prim.Native.Nat.{ℕ, zero, suc, ◌+◌, ◌-◌, ◌<◌, ◌≤◌}
use native.Mathlib.Omega.{arith}
use borrow.Author.Tests.{eq-eqb, ne_eqb, lt-ltb, le-ltb}
use lib.ListN.{length}
use Rattle.orders.specs.declared.order.Order.{Order}
use Rattle.plan.specs.Stored.{Plan, orders, refused, byte_at, pair_at, order_at, fault_at, before, header_fault, orders_from, most_orders, plan_of, plan_number, plan_place}
use Rattle.plan.specs.Judged.{fault_of, checked_at, checked_header, refusal_of, judged_of, judged_number, judged_place}
use Rattle.plan.specs.declared.stored.Fault.{Fault}
use Rattle.plan.specs.declared.stored.Fault.TheVariants.{TooMany}
use Rattle.plan.specs.declared.stored.Refusal.{Refusal}
use Rattle.plan.proofs.Faults.{ok-none, err-some, err-is, plan_of-stated, judged-number, judged-place}

-- the judge's answer for a plan tells the refusal's number and place
pub judges : {r : Result ℕ Refusal} (bs : List ℕ) → r ≡ judged_of (plan_of bs)
    → (r ≡ judged_of (plan_of bs)) × ((judged_number r ≡ plan_number (plan_of bs)) × (judged_place r ≡ plan_place (plan_of bs)))
judges bs is = (is, (rw is (judged-number (plan_of bs) (plan_of-stated bs)), rw is (judged-place (plan_of bs))))

-- the orders from a place on, by what stands there
module _ (bs : List ℕ) (at : ℕ) where
  pub from_end : (n : ℕ) → length bs ≤ at → orders_from n bs at ≡ orders []
  unfolding orders_from
  from_end zero h = rw (le-ltb at (length bs) h)
  from_end (suc n) h = rw (le-ltb at (length bs) h)

  module _ (more : at < length bs) where
    pub from-many : orders_from 0 bs at ≡ refused 9 at
    unfolding orders_from
    from-many = rw (lt-ltb at (length bs) more)

    module _ (n : ℕ) where
      pub from-fault : (fault_at bs at ≡ 0 → ⊥) → orders_from (suc n) bs at ≡ refused (fault_at bs at) at
      unfolding orders_from
      from-fault h = rw (lt-ltb at (length bs) more, ne_eqb (fault_at bs at) 0 h)

      pub from-order : fault_at bs at ≡ 0 → orders_from (suc n) bs at ≡ before (order_at bs at) (orders_from n bs (at + 1 + byte_at bs at))
      unfolding orders_from
      from-order h = rw (lt-ltb at (length bs) more, eq-eqb (fault_at bs at) 0 h)

-- the answer where so many orders were counted already
abbrev pub counted : ℕ → Plan → Result ℕ Refusal
counted k (orders os) = Ok (k + length os)
counted k (refused n p) = Err (refusal_of n p)

pub counted_none : (p : Plan) → judged_of p ≡ counted 0 p
unfolding judged_of
counted_none (orders os) = ap Ok (omega arith)
counted_none (refused n p) = refl

counted-before : (k : ℕ) (o : Order) (p : Plan) → counted k (before o p) ≡ counted (k + 1) p
counted-before k o (orders os) = ap Ok (omega arith)
counted-before k o (refused n p) = refl

-- the ways out of the loop, and one turn of it
module _ (bs : List ℕ) (at count : ℕ) (whole : Result ℕ Refusal) (inv : whole ≡ counted count (orders_from (64 - count) bs at)) where
  pub judged-end : length bs ≤ at → Ok count ≡ whole
  judged-end h = rw (inv, from_end bs at (64 - count) h) (ap Ok (omega arith))

  module _ (more : at < length bs) where
    pub judged-many : 64 ≤ count → Err (record { fault = TooMany; place = at }) ≡ whole
    unfolding fault_of
    judged-many h = let none : 64 - count ≡ 0 = omega arith in rw (inv, none, from-many bs at more)

    module _ (room : count < 64) where
      one_more : 64 - count ≡ suc (64 - (count + 1))
      one_more = omega arith

      pub judged-fault : {f : Fault} → Err f ≡ checked_at bs at → Err (record { fault = f; place = at }) ≡ whole
      judged-fault e = rw (inv, one_more, from-fault bs at more (64 - (count + 1)) (err-some _ _ e), err-is _ _ e)

      pub judged-next : {o : Order} (size : ℕ) → Ok o ≡ checked_at bs at → size ≡ byte_at bs at
          → whole ≡ counted (count + 1) (orders_from (64 - (count + 1)) bs (at + 1 + size))
      judged-next size e is =
          rw (inv, one_more, from-order bs at more (64 - (count + 1)) (ok-none _ _ e), is)
          (counted-before count (order_at bs at) (orders_from (64 - (count + 1)) bs (at + 1 + byte_at bs at)))

-- the ways through the header
module _ (bs : List ℕ) where
  pub header-short : length bs < 3 → 2 ≡ header_fault bs
  unfolding header_fault
  header-short h = rw (lt-ltb (length bs) 3 h)

  module _ (long : 3 ≤ length bs) where
    pub header-version : (byte_at bs 0 ≡ 1 → ⊥) → 3 ≡ header_fault bs
    unfolding header_fault
    header-version h = rw (le-ltb (length bs) 3 long, ne_eqb (byte_at bs 0) 1 h)

    module _ (version : byte_at bs 0 ≡ 1) (n : ℕ) (is : n ≡ pair_at bs 1) where
      pub header-length : (length bs ≡ 3 + n → ⊥) → 4 ≡ header_fault bs
      unfolding header_fault
      header-length h = rw (le-ltb (length bs) 3 long, eq-eqb (byte_at bs 0) 1 version, ← is, ne_eqb (length bs) (3 + n) h)

      pub header-whole : length bs ≡ 3 + n → 0 ≡ header_fault bs
      unfolding header_fault
      header-whole h = rw (le-ltb (length bs) 3 long, eq-eqb (byte_at bs 0) 1 version, ← is, eq-eqb (length bs) (3 + n) h)

-- the plan, by what is wrong before its orders
module _ (bs : List ℕ) where
  pub plan-header : {f : Fault} → Err f ≡ checked_header bs → plan_of bs ≡ refused (header_fault bs) 0
  unfolding plan_of
  plan-header e = rw (ne_eqb (header_fault bs) 0 (err-some _ _ e))

  module _ {u : Unit {0}} (none : Ok u ≡ checked_header bs) where
    pub plan-orders : plan_of bs ≡ orders_from most_orders bs 3
    unfolding plan_of
    plan-orders = rw (eq-eqb (header_fault bs) 0 (ok-none _ _ none))

    pub judged-orders : {r : Result ℕ Refusal} → r ≡ judged_of (orders_from most_orders bs 3) → r ≡ judged_of (plan_of bs)
    judged-orders is = rw plan-orders is

  pub judged-header : {f : Fault} → Err f ≡ checked_header bs → Err (record { fault = f; place = 0 }) ≡ judged_of (plan_of bs)
  unfolding judged_of
  judged-header e = rw (plan-header e, err-is _ _ e)
