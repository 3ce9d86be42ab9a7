-- The orders of an accepted plan, one after another: k of them have been passed and the next one's length byte is at a place.
-- Assumes nothing.
use mathlib.Core.Path.{◌≡◌, ap, ◌∙◌}
use mathlib.Core.List.{List, ◌∷◌}
use Prim.Native.Nat.{ℕ, suc, ◌+◌, ◌-◌, ◌≤◌, ◌<◌}
use native.Mathlib.Omega.{arith}
use native.Mathlib.Decide.{dec_lt}
use lib.ListN.{length, drop, length-drop}
use lib.Seq.{drop-drop}
use Rattle.orders.specs.declared.order.Order.{Order}
use Rattle.plan.specs.Stored.{orders, byte_at, order_at, fault_at, orders_from, plan_of}
use Rattle.plan.proofs.Accepted.{Sound, sound, orders-sound, orders-first, orders-rest, orders-done, accepted-orders, accepted-few, accepted-header}

pub record Walking (bs : List ℕ) (os : List Order) (at k : ℕ) : Type 0 where
  pub rest : orders_from (64 - k) bs at ≡ orders (drop k os)
  pub passed : k ≤ length os
  pub few : length os ≤ 64
  pub place : at ≤ length bs

pub walking-first : (bs : List ℕ) (os : List Order) → plan_of bs ≡ orders os → Walking bs os 3 0
walking-first bs os e =
    record {
      rest = accepted-orders bs os e;
      passed = omega arith;
      few = accepted-few bs os e;
      place = (accepted-header bs os e).long;
    }

module _ (bs : List ℕ) (os : List Order) (at k : ℕ) (w : Walking bs os at k) (more : k < length os) where
  -- an order is left, so bytes are
  bytes : at < length bs
  bytes = go (dec_lt at (length bs))
    where
      go : Dec (at < length bs) → at < length bs
      go (yes h) = h
      go (no h) =
          let none = orders-done bs at (64 - k) (drop k os) w.rest (omega arith) in
          absurd (omega (arith, length-drop k os, ap length none))

  step : 64 - k ≡ suc (63 - k)
  step = let few = w.few in omega arith

  pub walking-order : drop k os ≡ order_at bs at ∷ drop (k + 1) os
  walking-order =
      orders-first bs at (64 - k) (drop k os) w.rest bytes (63 - k) step
      ∙ ap (λ (l : List Order). order_at bs at ∷ l) (drop-drop 1 k os)

  pub walking-whole : fault_at bs at ≡ 0
  walking-whole = orders-sound bs at (64 - k) (drop k os) w.rest bytes

  pub walking-sound : Sound bs at
  walking-sound = sound bs at walking-whole

  pub walking-next : Walking bs os (at + 1 + byte_at bs at) (k + 1)
  walking-next =
      let m : 64 - (k + 1) ≡ 63 - k = omega arith in
      record {
        rest =
            rw (m, ← drop-drop 1 k os) (orders-rest bs at (64 - k) (drop k os) w.rest bytes (63 - k) step);
        passed = omega arith;
        few = w.few;
        place = walking-sound.ends;
      }
