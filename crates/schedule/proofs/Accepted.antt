-- Every accepted plan is translated: a head that is fit and buffers of 256 places each are answered by a translation.
-- Assumes nothing.
use mathlib.Core.Path.{◌≡◌}
use mathlib.Core.Bool.{true}
use mathlib.Core.List.{List}
use Prim.Native.Nat.{ℕ, ◌≤◌}
use native.Mathlib.Omega.{arith}
use borrow.Author.Tests.{le-leb}
use lib.ListN.{length}
use Rattle.head.specs.declared.state.Head.{Head}
use Rattle.orders.specs.Words.{items_of_all}
use Rattle.orders.specs.declared.order.Order.{Order}
use Rattle.plan.specs.Stored.{orders, plan_of}
use Rattle.plan.proofs.Accepted.{accepted-fit, accepted-few}
use Rattle.schedule.specs.Schedule.{Schedule, schedule_from}
use Rattle.schedule.specs.Translate.{fit, most_words, schedule_of, answer_of_plan, translate_of}
use Rattle.std.specs.Prelude.{Ok}
use Rattle.schedule.proofs.Plans.{plan-count}

module _ (s : Head) (bs : List ℕ) (os : List Order) (h : fit s ≡ true) (e : plan_of bs ≡ orders os) where
  abbrev made : Schedule
  made = schedule_from s 0 (items_of_all os)

  pub accepted-schedule : schedule_of s (plan_of bs) ≡ made
  unfolding schedule_of
  accepted-schedule = rw e

  pub accepted-done : (a b : ℕ) → most_words ≤ a → most_words ≤ b → translate_of s bs a b ≡ Ok (record { count = length made.list; end = made.end })
  unfolding translate_of answer_of_plan
  accepted-done a b p q =
      let few = plan-count s h os (accepted-fit bs os e) (accepted-few bs os e) in
      rw (h, accepted-schedule, e, le-leb (length made.list) a (omega arith), le-leb (length made.list) b (omega arith))
