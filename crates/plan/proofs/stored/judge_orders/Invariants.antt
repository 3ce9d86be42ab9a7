-- `plan::stored::judge_orders` meets its contract. The loop's invariant: the whole answer is that of the orders from here on, the ones
-- passed counted. The measure is what is left of the bytes.
use Prim.Native.Nat.{◌-◌, ◌≤◌}
use mathlib.Core.Path.{◌≡◌}
use lib.ListN.{length}
use Rattle.plan.specs.Stored.{orders_from, most_orders}
use Rattle.plan.specs.Judged.{judged_of}
use Rattle.plan.proofs.Judging.{counted}
use Rattle.plan.proofs.stored.judge_orders.Given as goal

abbrev pub invariant-loop-at : goal.invariant-loop-at
invariant-loop-at l =
    (l.count ≤ 64) × (judged_of (orders_from most_orders l.plan 3) ≡ counted l.count (orders_from (64 - l.count) l.plan l.at))

abbrev pub decreases-loop-at : goal.decreases-loop-at
decreases-loop-at l = length l.plan - l.at
