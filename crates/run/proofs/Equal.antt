-- Demand 3 read off the answer of `compare`: for every accepted plan and a head that is fit it answers `equal` true (`compared-equal`), and
-- `equal` true says that the head's log and settings are those of the plan read without words (`equal-says`).
-- Assumes nothing.
use mathlib.Core.Path.{◌≡◌}
use mathlib.Core.Bool.{true}
use mathlib.Core.List.{List}
use Prim.Native.Nat.{ℕ}
use native.Mathlib.Omega.{arith}
use lib.ListN.{length}
use Rattle.head.specs.declared.state.Head.{Head}
use Rattle.orders.specs.Words.{items_of_all}
use Rattle.orders.specs.declared.order.Order.{Order}
use Rattle.plan.specs.Read.{read_record}
use Rattle.plan.specs.Reading.{settings_read, log_read}
use Rattle.plan.specs.Stored.{orders, plan_of}
use Rattle.plan.proofs.Accepted.{accepted-fit}
use Rattle.plan.proofs.Recovered.{record-determines}
use Rattle.schedule.specs.Schedule.{Schedule, schedule_from}
use Rattle.schedule.specs.Translate.{fit, most_words}
use Rattle.schedule.proofs.Accepted.{accepted-schedule, accepted-done}
use Rattle.run.specs.Run.{head_after, log_of}
use Rattle.run.specs.Rehearse.{run_of, run_record}
use Rattle.run.specs.Compare.{same, compared_by, compared_of}
use Rattle.std.specs.Prelude.{Ok}
use Rattle.run.proofs.Whole.{run-whole}
use Rattle.run.proofs.Comparing.{same_self, same-equal}

pub equal-says : (s : Head) (sch : Schedule) (os : List Order)
    → same (run_record s sch) (read_record s.settings (orders os)) ≡ true
    → (log_of (run_of s sch) ≡ log_read s.settings os) × ((head_after sch.end 0 sch.list s).settings ≡ settings_read s.settings os)
unfolding run_record read_record
equal-says s sch os e =
    record-determines _ _ _ _ (same-equal (run_record s sch) (read_record s.settings (orders os)) e)

module _ (s : Head) (bs : List ℕ) (os : List Order) (h : fit s ≡ true) (e : plan_of bs ≡ orders os) where
  -- the head's log and settings are the reading's, so their records are equal
  log_is : log_of (run_of s (schedule_from s 0 (items_of_all os))) ≡ log_read s.settings os
  log_is = (run-whole s os h (accepted-fit bs os e)).log

  pub record_is : run_record s (schedule_from s 0 (items_of_all os)) ≡ read_record s.settings (plan_of bs)
  unfolding run_record read_record
  record_is = rw (e, log_is, (run-whole s os h (accepted-fit bs os e)).settings)

  pub compared-equal : compared_of s bs
      ≡ Ok (record {
        head = head_after (schedule_from s 0 (items_of_all os)).end 0 (schedule_from s 0 (items_of_all os)).list s;
        count = length (schedule_from s 0 (items_of_all os)).list;
        end = (schedule_from s 0 (items_of_all os)).end;
        acts = length (log_read s.settings os);
        equal = true;
      })
  unfolding compared_of compared_by
  compared-equal =
      rw (accepted-done s bs os h e most_words most_words (omega arith) (omega arith), accepted-schedule s bs os h e, record_is, log_is, same_self (read_record s.settings (plan_of bs)))
