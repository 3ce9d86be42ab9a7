-- What an order that fits says of the registers it sets.
-- Assumes nothing.
use mathlib.Core.Path.{◌≡◌}
use mathlib.Core.Bool.{true, false}
use Prim.Native.Nat.{ℕ, ◌+◌, ◌*◌, ◌≤◌}
use native.Mathlib.Omega.{arith}
use lib.Dec.{lit≤}
use Rattle.head.specs.declared.state.Settings.{Settings}
use Rattle.orders.specs.Codes as code
use Rattle.orders.specs.Codes.{recoded, is, rows, fields_fit, fit}
use Rattle.orders.specs.declared.order.Order.{Order}
use Rattle.orders.proofs.Fit.{Apart, by_order, fit-known, fit-fields, fit-bounds}
use Rattle.orders.proofs.Sending.{others-not}
use Rattle.plan.specs.Reading.{settings_by}

module _ (o : Order) (f : fit o ≡ true) where
  pub motor-most : o.code ≡ code.motor → o.a ≤ 1
  unfolding rows
  motor-most e = (rw e at (fit-bounds o (fit-fields o f))).1

-- a lamp, the shutter or the annealing
Current : Order → Type 0
Current o = fields_fit o ≡ true → code.ccd_lamp ≤ o.code → o.code ≤ code.annealing → o.a + 2 * o.b ≤ 127

other : (o : Order) → (code.ccd_lamp ≤ o.code → o.code ≤ code.annealing → ⊥) → Current o
unfolding Current
other o h = λ f low high. absurd (h low high)

pub current-most : (o : Order) → fit o ≡ true → code.ccd_lamp ≤ o.code → o.code ≤ code.annealing → o.a + 2 * o.b ≤ 127
unfolding Current rows
current-most o f =
    by_order Current o
    (other _ (λ l h. omega arith)) (other _ (λ l h. omega arith)) (other _ (λ l h. omega arith)) (other _ (λ l h. omega arith))
    (other _ (λ l h. omega arith)) (other _ (λ l h. omega arith)) (other _ (λ l h. omega arith))
    (λ f l h. let b = fit-bounds (recoded code.ccd_lamp o) f in omega arith)
    (λ f l h. let b = fit-bounds (recoded code.ir_lamp o) f in omega arith)
    (λ f l h. let b = fit-bounds (recoded code.shutter o) f in omega arith)
    (λ f l h. let b = fit-bounds (recoded code.annealing o) f in omega arith)
    (other _ (λ l h. omega arith)) (other _ (λ l h. omega arith)) (other _ (λ l h. omega arith))
    (other _ (λ l h. omega arith)) (other _ (λ l h. omega arith)) (other _ (λ l h. omega arith))
    (fit-known o f) (fit-fields o f)

-- an order that is none of those up to the cover sets nothing
module _ (o : Order) (h : Apart o.code code.cover) where
  unset : (n : ℕ) → 1 ≤ n → n ≤ code.cover → is o n ≡ false
  unset n = others-not o.code code.cover h n

  pub settings-same : (r : Settings) → r ≡ settings_by r o
  unfolding settings_by
  settings-same r =
      rw (
        unset code.detector (lit≤ tt) (lit≤ tt),
        unset code.window_mode (lit≤ tt) (lit≤ tt),
        unset code.vdetcom (lit≤ tt) (lit≤ tt),
        unset code.vdetadj (lit≤ tt) (lit≤ tt),
        unset code.ir_times (lit≤ tt) (lit≤ tt),
        unset code.ccd_times (lit≤ tt) (lit≤ tt),
        unset code.window (lit≤ tt) (lit≤ tt),
        unset code.ccd_lamp (lit≤ tt) (lit≤ tt),
        unset code.ir_lamp (lit≤ tt) (lit≤ tt),
        unset code.shutter (lit≤ tt) (lit≤ tt),
        unset code.annealing (lit≤ tt) (lit≤ tt),
        unset code.mirror (lit≤ tt) (lit≤ tt),
        unset code.motor (lit≤ tt) (lit≤ tt),
        unset code.cover (lit≤ tt) (lit≤ tt),
      )
