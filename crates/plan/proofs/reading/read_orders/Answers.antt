-- `plan::reading::read_orders` meets its contract. The loop's invariant: k orders have been read.
use mathlib.Core.Path.{sym, ◌∙◌}
use Prim.Native.Nat.{◌≤◌, ◌<◌}
use native.Mathlib.Omega.{arith}
use Rattle.plan.specs.Rows.{end_row}
use Rattle.plan.proofs.Logging.{logging-first, logging-order, logging-whole, logging-fits, logging-next, logged-acts, logged-rows}
use Rattle.plan.proofs.reading.read_orders.Goals as goal

pub loop-k-init : goal.loop-k-init
loop-k-init c = logging-first c.requires.fact_1 c.requires.fact_2

pub unwrap-order-requires : goal.unwrap-order-requires
unwrap-order-requires c =
    let more : c.loop-k._k < c.args.count = omega arith in
    rw (c.checked_at.ensures.value ∙ sym (logging-whole c.loop-k.invariant more))

pub settings_by-settings-requires : goal.settings_by-settings-requires
settings_by-settings-requires c =
    let at = c.loop-k in
    let more : at._k < c.args.count = omega arith in
    rw (logging-order at.invariant more (sym c.unwrap-order.ensures ∙ c.checked_at.ensures.value)) (logging-fits at.invariant more)

pub loop-k-preserved : goal.loop-k-preserved
loop-k-preserved c =
    let at = c.loop-k in
    let more : at._k < c.args.count = omega arith in
    let is = logging-order at.invariant more (sym c.unwrap-order.ensures ∙ c.checked_at.ensures.value) in
    let e = rw is at c.log_order-acts.ensures in
    rw c.byte_at.ensures (logging-next at.invariant more e.value e.rows_after (rw is at c.settings_by-settings.ensures))

pub returns : goal.returns
unfolding end_row
returns c =
    let a = c.args in
    let at = c.loop-k in
    let all : a.count ≤ at._k = omega arith in
    let lay = c.lay.ensures in
    record { value = logged-acts at.invariant all; rows_after = logged-rows at.invariant all (rw c.settings_row.ensures at lay) }
