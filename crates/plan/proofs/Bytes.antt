-- How bytes are read into fields, orders and faults: one law for each way through the code.
-- Assumes nothing.
use mathlib.Core.Path.{◌≡◌, sym}
use mathlib.Core.Bool.{Bool, true, false, cond, not, or-true}
use mathlib.Core.List.{List}
use Prim.Native.Nat.{ℕ, ◌+◌, ◌*◌, ◌<◌, ◌≤◌}
use native.Mathlib.Decide.{ℕ_discrete}
use native.Mathlib.Nat.{mul-le-mul, le_refl}
use native.Mathlib.Omega.{arith}
use borrow.Author.Tests.{eq-eqb, ne_eqb, lt-ltb, le-ltb}
use lib.Dec.{eqb}
use lib.ListN.{length, get_or-eq_default}
use Rattle.orders.specs.Codes.{count_of, width_of, known, length_of, fields_fit}
use Rattle.orders.specs.declared.order.Order.{Order}
use Rattle.orders.proofs.Rows.{width_some}
use Rattle.plan.specs.Stored.{byte_at, value_at, reach, field_at, fields_at, order_at, fault_at}

-- past the end there is 0
pub byte_past : (bs : List ℕ) (i : ℕ) → length bs ≤ i → 0 ≡ byte_at bs i
byte_past bs i h = sym (get_or-eq_default bs 0 {n = i} h)

-- the fields of a code, all there, one after another
module _ (bs : List ℕ) (at code : ℕ) {width count : ℕ} (is-width : width ≡ width_of code) (is-count : count ≡ count_of code) where
  pub field-value : {i r : ℕ} → i < count → r ≡ value_at bs at (eqb width 2) i → r ≡ field_at bs at code i
  unfolding field_at
  field-value {i} has is = rw (← is-count, lt-ltb i count has, ← is-width) is

  pub field_past : {i : ℕ} → count ≤ i → 0 ≡ field_at bs at code i
  unfolding field_at
  field_past {i} h = rw (← is-count, le-ltb i count h)

  pub field-reach : (i : ℕ) {n : ℕ} → at + width_of code * count_of code ≤ n → i < count → at + reach (eqb width 2) i ≤ n
  field-reach i {n} room has = go (ℕ_discrete width 2)
    where
      go : Dec (width ≡ 2) → at + reach (eqb width 2) i ≤ n
      go (yes e) = rw (eq-eqb width 2 e) (let r = rw (← is-width, e, ← is-count) at room in omega arith)
      go (no ne) = rw (ne_eqb width 2 ne) (let r = mul-le-mul (width_some code) (le_refl (count_of code)) in omega arith)

  pub fields_read : {a b c d : ℕ} → a ≡ field_at bs at code 0 → b ≡ field_at bs at code 1 → c ≡ field_at bs at code 2 → d ≡ field_at bs at code 3
      → record { code = code; a = a; b = b; c = c; d = d } ≡ fields_at bs at code
  fields_read ia ib ic id = rw (ia, ib, ic, id)

-- the ways to a fault, and the one past them all
pub fault-none : (bs : List ℕ) (at : ℕ) → length bs ≤ at → 5 ≡ fault_at bs at
unfolding fault_at
fault-none bs at h = rw (← byte_past bs at h)

pub fault_past : (bs : List ℕ) (at : ℕ) → length bs < at + 1 + byte_at bs at → 5 ≡ fault_at bs at
unfolding fault_at
fault_past bs at h = rw (lt-ltb (length bs) (at + 1 + byte_at bs at) h, or-true (eqb (byte_at bs at) 0))

module _ (bs : List ℕ) (at size : ℕ) (is-size : size ≡ byte_at bs at) where
  pub fault-empty : size ≡ 0 → 5 ≡ fault_at bs at
  unfolding fault_at
  fault-empty h = rw (← is-size, h)

  module _ (code : ℕ) (full : size ≡ 0 → ⊥) (ends : at + 1 + size ≤ length bs) (is_code : code ≡ byte_at bs (at + 1)) where
    fault-later : cond (not (known code)) 6
        (cond (not (eqb size (length_of code))) 7 (cond (not (fields_fit (order_at bs at))) 8 0)) ≡ fault_at bs at
    unfolding fault_at
    fault-later = rw (← is-size, ne_eqb size 0 full, le-ltb (length bs) (at + 1 + size) ends, ← is_code)

    module _ (k : Bool) (is_known : k ≡ known code) where
      pub fault-unknown : not k ≡ true → 6 ≡ fault_at bs at
      fault-unknown h = rw (← is_known, h) at fault-later

      module _ (known-code : not k ≡ false) (n : ℕ) (is-length : n ≡ length_of code) where
        pub fault-length : (size ≡ n → ⊥) → 7 ≡ fault_at bs at
        fault-length h = rw (← is_known, known-code, ← is-length, ne_eqb size n h) at fault-later

        module _ (right : size ≡ n) (o : Order) (is-order : o ≡ order_at bs at) (fits : Bool) (is-fits : fits ≡ fields_fit o) where
          fault-last : cond (not fits) 8 0 ≡ fault_at bs at
          fault-last = rw (is-fits, is-order) (rw (← is_known, known-code, ← is-length, eq-eqb size n right) at fault-later)

          pub fault-nothing : fits ≡ true → 0 ≡ fault_at bs at
          fault-nothing h = rw h at fault-last

          pub fault-field : fits ≡ false → 8 ≡ fault_at bs at
          fault-field h = rw h at fault-last

-- the fields of an order whose length is its code's are all there
pub fields-room : (at size n code : ℕ) {end : ℕ} → size ≡ n → n ≡ length_of code → at + 1 + size ≤ end → at + 2 + width_of code * count_of code ≤ end
unfolding length_of
fields-room at size n code right is ends = omega arith

pub order-fields : (bs : List ℕ) (at code : ℕ) {o : Order} → code ≡ byte_at bs (at + 1) → o ≡ fields_at bs (at + 2) code → o ≡ order_at bs at
unfolding order_at
order-fields bs at code is_code is = rw (is, is_code)
