-- What an accepted plan says of its orders: for a loop that reads them one by one, and for all of them together.
-- Assumes nothing.
use mathlib.Core.Path.{◌≡◌, refl, sym, subst, ◌∙◌}
use mathlib.Core.Bool.{Bool, true, false, ◌||◌, true≢false}
use mathlib.Core.List.{List, [], ◌∷◌}
use Rattle.std.specs.Prelude.{Ok}
use Prim.Native.Nat.{ℕ, zero, suc, ◌+◌, ◌<◌, ◌≤◌}
use native.Mathlib.Decide.{ℕ_discrete, dec_lt}
use native.Mathlib.Omega.{arith}
use borrow.Author.Tests.{eqb-true, ltb-false}
use lib.Dec.{eqb, ltb}
use lib.ListN.{length, drop}
use Rattle.orders.specs.Codes.{known, length_of, fields_fit, fit}
use Rattle.orders.specs.declared.order.Order.{Order}
use Rattle.plan.specs.Stored.{Plan, orders, refused, orders_in, byte_at, pair_at, order_at, fault_at, before, header_fault, orders_from, most_orders, plan_of}
use Rattle.plan.specs.Judged.{judged_of}
use Rattle.plan.proofs.Judging.{from_end, from-many, from-fault, from-order}

differ : {A : Type 0} → ◌≡◌ {A = ℕ} 0 1 → A
differ z = absurd (omega arith)

-- what the judge's answer says of the plan
pub judged-accepted : (p : Plan) {n : ℕ} → Ok n ≡ judged_of p → p ≡ orders (orders_in p)
unfolding judged_of
judged-accepted (orders os) e = refl
judged-accepted (refused m q) e = cc

pub judged-count : (p : Plan) {n : ℕ} → Ok n ≡ judged_of p → length (orders_in p) ≡ n
unfolding judged_of
judged-count (orders os) e = cc
judged-count (refused m q) e = cc

-- an order without fault is within the plan and fits
pub record Sound (bs : List ℕ) (at : ℕ) : Type 0 where
  pub ends : at + 1 + byte_at bs at ≤ length bs
  pub size : byte_at bs at ≡ length_of (byte_at bs (at + 1))
  pub fits : fit (order_at bs at) ≡ true

or_right : (a b : Bool) → (a || b) ≡ false → b ≡ false
or_right true b e = absurd (true≢false e)
or_right false b e = e

pub sound : (bs : List ℕ) (at : ℕ) → fault_at bs at ≡ 0 → Sound bs at
unfolding fault_at fit order_at
sound bs at e = go (eqb size 0 || past) refl (known code) refl (eqb size (length_of code)) refl (fields_fit (order_at bs at)) refl
  where
    size : ℕ
    size = byte_at bs at

    code : ℕ
    code = byte_at bs (at + 1)

    past : Bool
    past = ltb (length bs) (at + 1 + size)

    go : (a : Bool) → (eqb size 0 || past) ≡ a → (k : Bool) → known code ≡ k → (l : Bool) → eqb size (length_of code) ≡ l
        → (f : Bool) → fields_fit (order_at bs at) ≡ f → Sound bs at
    go true p k q l r f t = absurd (omega (arith, rw p at e))
    go false p false q l r f t = absurd (omega (arith, rw (p, q) at e))
    go false p true q false r f t = absurd (omega (arith, rw (p, q, r) at e))
    go false p true q true r false t = absurd (omega (arith, rw (p, q, r, t) at e))
    go false p true q true r true t =
        record {
          ends = ltb-false (length bs) (at + 1 + size) (or_right (eqb size 0) past p);
          size = eqb-true size (length_of code) r;
          fits = rw (q, t);
        }

-- the next order of an accepted plan, and the rest
module _ (bs : List ℕ) (at n : ℕ) (os : List Order) (is : orders_from n bs at ≡ orders os) where
  pub orders-done : length bs ≤ at → os ≡ []
  orders-done h = let none = from_end bs at n h in cc

  module _ (more : at < length bs) where
    orders-room : 0 < n
    orders-room = go n refl
      where
        go : (m : ℕ) → n ≡ m → 0 < n
        go zero e = let many = from-many bs at more in differ (cc)
        go (suc m) e = omega arith

    pub orders-sound : fault_at bs at ≡ 0
    orders-sound = go (ℕ_discrete (fault_at bs at) 0) n refl
      where
        go : Dec (fault_at bs at ≡ 0) → (m : ℕ) → n ≡ m → fault_at bs at ≡ 0
        go (yes e) m h = e
        go (no e) zero h = let many = from-many bs at more in differ (cc)
        go (no e) (suc m) h = let fault = from-fault bs at more m e in differ (cc)

    module _ (m : ℕ) (step : n ≡ suc m) where
      orders-next : before (order_at bs at) (orders_from m bs (at + 1 + byte_at bs at)) ≡ orders os
      orders-next = sym (from-order bs at more m orders-sound) ∙ (rw step at is)

      pub orders-first : os ≡ order_at bs at ∷ drop 1 os
      orders-first = go (orders_from m bs (at + 1 + byte_at bs at)) orders-next
        where
          go : (p : Plan) → before (order_at bs at) p ≡ orders os → os ≡ order_at bs at ∷ drop 1 os
          go (orders rest) e = let same : (order_at bs at ∷ rest) ≡ os = cc in rw (← same)
          go (refused k q) e = differ (cc)

      pub orders-rest : orders_from m bs (at + 1 + byte_at bs at) ≡ orders (drop 1 os)
      orders-rest = go (orders_from m bs (at + 1 + byte_at bs at)) orders-next
        where
          go : (p : Plan) → before (order_at bs at) p ≡ orders os → p ≡ orders (drop 1 os)
          go (orders rest) e = let same : (order_at bs at ∷ rest) ≡ os = cc in rw (← same)
          go (refused k q) e = differ (cc)

-- what holds of no orders, and of one more that fits, holds of those that were read
module _ (bs : List ℕ) (P : ℕ → List Order → Type 0) (none : (n : ℕ) → P n [])
    (more : (n : ℕ) (o : Order) (os : List Order) → fit o ≡ true → P n os → P (suc n) (o ∷ os)) where
  orders-ind : (n at : ℕ) (os : List Order) → orders_from n bs at ≡ orders os → P n os
  orders-ind zero at os is = go (dec_lt at (length bs))
    where
      go : Dec (at < length bs) → P 0 os
      go (yes h) = absurd (omega (arith, orders-room bs at 0 os is h))
      go (no h) = rw (orders-done bs at 0 os is (omega arith)) (none 0)
  orders-ind (suc n) at os is = go (dec_lt at (length bs)) (orders-ind n (at + 1 + byte_at bs at) (drop 1 os))
    where
      go : Dec (at < length bs) → (orders_from n bs (at + 1 + byte_at bs at) ≡ orders (drop 1 os) → P n (drop 1 os)) → P (suc n) os
      go (yes h) rest =
          subst (P (suc n)) (sym (orders-first bs at (suc n) os is h n refl))
          (more n (order_at bs at) (drop 1 os) (sound bs at (orders-sound bs at (suc n) os is h)).fits
          (rest (orders-rest bs at (suc n) os is h n refl)))
      go (no h) rest = rw (orders-done bs at (suc n) os is (omega arith)) (none (suc n))

-- all orders fit
abbrev pub AllFit : List Order → Type 0
AllFit [] = Unit {0}
AllFit (o ∷ os) = (fit o ≡ true) × AllFit os

pub record Header (bs : List ℕ) : Type 0 where
  pub long : 3 ≤ length bs
  pub version : byte_at bs 0 ≡ 1
  pub rest : length bs ≡ 3 + pair_at bs 1

-- an accepted plan: its header, that every order fits, and that there are at most 64
module _ (bs : List ℕ) (os : List Order) (is : plan_of bs ≡ orders os) where
  read : Header bs × (orders_from most_orders bs 3 ≡ orders os)
  unfolding plan_of header_fault
  read =
      go (ltb (length bs) 3) refl (eqb (byte_at bs 0) 1) refl (eqb (length bs) (3 + pair_at bs 1)) refl
    where
      go : (s : Bool) → ltb (length bs) 3 ≡ s → (v : Bool) → eqb (byte_at bs 0) 1 ≡ v
          → (l : Bool) → eqb (length bs) (3 + pair_at bs 1) ≡ l → Header bs × (orders_from most_orders bs 3 ≡ orders os)
      go true p v q l r = differ (cc (rw p at is))
      go false p false q l r = differ (cc (rw (p, q) at is))
      go false p true q false r = differ (cc (rw (p, q, r) at is))
      go false p true q true r =
          let header : Header bs = record { long = ltb-false (length bs) 3 p; version = eqb-true (byte_at bs 0) 1 q; rest = eqb-true (length bs) (3 + pair_at bs 1) r } in
          (header, rw (p, q, r) at is)

  pub accepted-header : Header bs
  accepted-header = read.0

  pub accepted-orders : orders_from most_orders bs 3 ≡ orders os
  accepted-orders = read.1

  pub accepted-fit : AllFit os
  accepted-fit = orders-ind bs (λ n os. AllFit os) (λ n. tt) (λ n o os f rest. (f, rest)) 64 3 os accepted-orders

  pub accepted-few : length os ≤ 64
  accepted-few = orders-ind bs (λ n os. length os ≤ n) (λ n. omega arith) (λ n o os f rest. omega arith) 64 3 os accepted-orders
