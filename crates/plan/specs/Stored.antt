-- Document 01, "Plans": a stored plan, read into its orders or refused with a number and a byte place.
-- Assumes nothing.
use Rattle.std.specs.Prelude.{ℕ, zero, suc, ◌+◌, ◌*◌, Bool, cond, not, ◌||◌, List, [], ◌∷◌, ltb, eqb, length, get_or}
use Rattle.orders.specs.Codes.{count_of, width_of, known, length_of, fields_fit}
use Rattle.orders.specs.declared.order.Order.{Order}

pub data Plan : Type 0 where
  orders : List Order → Plan
  refused : ℕ → ℕ → Plan

abbrev pub byte_at : List ℕ → ℕ → ℕ
byte_at bs i = get_or bs i 0

-- The orders of a plan; none where it is refused.
abbrev pub orders_in : Plan → List Order
orders_in (orders os) = os
orders_in (refused n p) = []

-- The refusal's number of document 01, 0 for none, and its byte place.
abbrev pub plan_number : Plan → ℕ
plan_number (orders os) = 0
plan_number (refused n p) = n

abbrev pub plan_place : Plan → ℕ
plan_place (orders os) = 0
plan_place (refused n p) = p

-- Big-endian throughout.
abbrev pub pair_at : List ℕ → ℕ → ℕ
pair_at bs i = byte_at bs i * 256 + byte_at bs (i + 1)

-- The ith value from a place on, of two bytes or one, and how far the values then reach.
abbrev pub value_at : List ℕ → ℕ → Bool → ℕ → ℕ
value_at bs at wide i = cond wide (pair_at bs (at + 2 * i)) (byte_at bs (at + i))

abbrev pub reach : Bool → ℕ → ℕ
reach wide i = cond wide (2 * i + 2) (i + 1)

-- The ith field of an order whose fields start at a place: one byte or two, by the code's row; 0 where the code has fewer.
unfoldable pub field_at : List ℕ → ℕ → ℕ → ℕ → ℕ
field_at bs at code i = cond (ltb i (count_of code)) (value_at bs at (eqb (width_of code) 2) i) 0

abbrev pub fields_at : List ℕ → ℕ → ℕ → Order
fields_at bs at code =
    record {
      code = code;
      a = field_at bs at code 0;
      b = field_at bs at code 1;
      c = field_at bs at code 2;
      d = field_at bs at code 3;
    }

-- The order whose length byte is at a place.
unfoldable pub order_at : List ℕ → ℕ → Order
order_at bs at = fields_at bs (at + 2) (byte_at bs (at + 1))

-- What is wrong with the order at a place, 0 for nothing: 5 order length 0 or past the end, 6 code not 1-17, 7 order length not that
-- of its code, 8 a field out of range.
unfoldable pub fault_at : List ℕ → ℕ → ℕ
fault_at bs at =
    let size = byte_at bs at in
    let code = byte_at bs (at + 1) in
    cond (eqb size 0 || ltb (length bs) (at + 1 + size)) 5
    (cond (not (known code)) 6
    (cond (not (eqb size (length_of code))) 7
    (cond (not (fields_fit (order_at bs at))) 8 0)))

abbrev pub before : Order → Plan → Plan
before o (orders os) = orders (o ∷ os)
before o (refused n p) = refused n p

-- The orders from a place on, of which so many may still begin: 9 where one more does. The first faulty order decides.
unfoldable pub orders_from : ℕ → List ℕ → ℕ → Plan
orders_from zero bs at = cond (ltb at (length bs)) (refused 9 at) (orders [])
orders_from (suc n) bs at =
    let rest = orders_from n bs (at + 1 + byte_at bs at) in
    cond (ltb at (length bs))
    (cond (eqb (fault_at bs at) 0) (before (order_at bs at) rest) (refused (fault_at bs at) at))
    (orders [])

abbrev pub most_orders : ℕ
most_orders = 64

-- What is wrong before the orders, 0 for nothing: 2 fewer than 3 bytes, 3 version not 1, 4 bytes after the third are not as many as the
-- length says.
unfoldable pub header_fault : List ℕ → ℕ
header_fault bs =
    cond (ltb (length bs) 3) 2
    (cond (not (eqb (byte_at bs 0) 1)) 3
    (cond (not (eqb (length bs) (3 + pair_at bs 1))) 4 0))

unfoldable pub plan_of : List ℕ → Plan
plan_of bs = cond (eqb (header_fault bs) 0) (orders_from most_orders bs 3) (refused (header_fault bs) 0)
