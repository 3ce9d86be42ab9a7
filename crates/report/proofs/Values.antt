-- The number of orders by the answer of judging.
-- Assumes nothing.
use mathlib.Core.Path.{◌≡◌, refl}
use lib.ListN.{length}
use Rattle.plan.specs.Stored.{Plan, orders, refused, orders_in}
use Rattle.plan.specs.Judged.{judged_of}
use Rattle.std.specs.Result.{result_unwrap_or}

pub order-count : (p : Plan) → result_unwrap_or (judged_of p) 0 ≡ length (orders_in p)
unfolding judged_of
order-count (orders os) = refl
order-count (refused n q) = refl
