-- The report of every accepted plan: its acts and its settings at the end are those of the plan read without words, every word was taken,
-- and it says so.
-- Assumes nothing.
use mathlib.Core.Path.{◌≡◌, refl, sym, ◌∙◌}
use mathlib.Core.Bool.{true}
use mathlib.Core.List.{List, [], ◌∷◌}
use Prim.Native.Nat.{ℕ}
use native.Mathlib.Omega.{arith}
use lib.ListN.{length, length-map}
use Rattle.head.specs.Busy.{rest_ticks}
use Rattle.head.specs.List.{numbers_listed}
use Rattle.head.specs.declared.state.Head.{Head}
use Rattle.head.proofs.Causes.{no-cause}
use Rattle.head.proofs.Giving.{numbers-long}
use Rattle.orders.specs.declared.order.Order.{Order}
use Rattle.plan.specs.Read.{read_record}
use Rattle.plan.specs.Reading.{settings_read, log_read}
use Rattle.plan.specs.Stored.{orders, plan_of}
use Rattle.plan.proofs.Accepted.{accepted-fit}
use Rattle.orders.specs.Words.{items_of_all}
use Rattle.schedule.specs.Schedule.{Timed, Schedule, schedule_from}
use Rattle.schedule.specs.Translate.{fit, schedule_of, word_list, tick_list}
use Rattle.schedule.proofs.Accepted.{accepted-schedule}
use Rattle.run.specs.Run.{head_after}
use Rattle.run.specs.Listed.{NoCause}
use Rattle.run.proofs.Whole.{run-whole}
use Rattle.run.proofs.Comparing.{same_self}
use Rattle.run.proofs.Equal.{compared-equal, record_is}
use Rattle.report.specs.Report.{rested, taken_in, text_of, report_text}
use Rattle.report.proofs.Simulated.{simulated-zeros, lists-taken}

all-taken : (ns : List ℕ) → NoCause ns → taken_in ns ≡ length ns
unfolding taken_in
all-taken [] h = refl
all-taken (n ∷ ns) h = rw (no-cause n h.0, all-taken ns h.1) (omega arith)

module _ (given : Head) (bs : List ℕ) (os : List Order) (h : fit (rested given) ≡ true) (e : plan_of bs ≡ orders os) where
  abbrev sch : Schedule
  sch = schedule_from (rested given) 0 (items_of_all os)

  scheduled : schedule_of (rested given) (plan_of bs) ≡ sch
  scheduled = accepted-schedule (rested given) bs os h e

  taken : taken_in (numbers_listed (word_list sch) (tick_list sch) (rested given)) ≡ length sch.list
  taken =
      let none = rw scheduled at (lists-taken (simulated-zeros given bs) (compared-equal (rested given) bs os h e)) in
      let even = length-map sch.list (λ (x : Timed). x.word) ∙ sym (length-map sch.list (λ (x : Timed). x.tick)) in
      all-taken (numbers_listed (word_list sch) (tick_list sch) (rested given)) none
      ∙ numbers-long (word_list sch) (tick_list sch) (rested given) even
      ∙ length-map sch.list (λ (x : Timed). x.word)

  pub accepted-report : report_text given bs
      ≡ text_of bs (tick_list sch) (log_read (rested given).settings os) (record { given = given; rest = rest_ticks given; head = rested given })
      (head_after sch.end 0 sch.list (rested given))
      (record { end = sch.end; words = length sch.list; taken = length sch.list; equal = true })
  unfolding report_text
  accepted-report =
      let run = run-whole (rested given) os h (accepted-fit bs os e) in
      rw (
        scheduled,
        run.log,
        taken,
        record_is (rested given) bs os h e,
        same_self (read_record (rested given).settings (plan_of bs)),
      )

  pub accepted-settings : (head_after sch.end 0 sch.list (rested given)).settings ≡ settings_read (rested given).settings os
  accepted-settings = (run-whole (rested given) os h (accepted-fit bs os e)).settings
