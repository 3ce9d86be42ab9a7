-- A plan translated for a head and run to its end: the answer, and demands 2 and 3 of what the buffers then hold.
-- Assumes nothing.
use Rattle.std.specs.Prelude.{ℕ, ◌≡◌, List, length, take, Result, Ok, Err}
use Rattle.head.specs.declared.state.Head.{Head}
use Rattle.plan.specs.Rows.{record_of}
use Rattle.plan.specs.Stored.{plan_of, orders_in}
use Rattle.schedule.specs.Schedule.{Schedule}
use Rattle.schedule.specs.Translate.{schedule_of, translate_of, translated_number, translated_place}
use Rattle.schedule.specs.declared.Translation.{Translation}
use Rattle.schedule.specs.declared.TranslateError.{TranslateError}
use Rattle.run.specs.Run.{Moment, moments_of, head_after, log_of, times_of}
use Rattle.run.specs.Claim.{paired, Demands}
use Rattle.run.specs.declared.Rehearsal.{Rehearsal}

-- The first n places of a buffer of ticks and one of words, and an end, read as a schedule.
abbrev pub buffered : ℕ → ℕ → List ℕ → List ℕ → Schedule
buffered n end ticks words = record { list = paired (take n ticks) (take n words); end = end }

-- The moments of a head under a schedule, from tick 0 to its end.
abbrev pub run_of : Head → Schedule → List Moment
run_of s sch = moments_of sch.end 0 sch.list s

-- What the head then did, as rows: its log, and its settings at the end.
unfoldable pub run_record : Head → Schedule → List ℕ
run_record s sch = record_of (log_of (run_of s sch)) (head_after sch.end 0 sch.list s).settings

-- The tick of each act.
unfoldable pub run_times : Head → Schedule → List ℕ
run_times s sch = times_of 0 (run_of s sch)

-- The head after the schedule and the number of its acts, where there is one; the translation's answer otherwise.
unfoldable pub rehearsed_by : Head → Schedule → Result Translation TranslateError → Result Rehearsal TranslateError
rehearsed_by s sch (Ok t) =
    Ok (record {
      head = head_after t.end 0 sch.list s;
      count = t.count;
      end = t.end;
      acts = length (log_of (moments_of t.end 0 sch.list s));
    })
rehearsed_by s sch (Err e) = Err e

-- The buffers' lengths are a and b.
unfoldable pub rehearse_of : Head → List ℕ → ℕ → ℕ → Result Rehearsal TranslateError
rehearse_of s bs a b = rehearsed_by s (schedule_of s (plan_of bs)) (translate_of s bs a b)

-- The translation's answer in a rehearsal's.
abbrev pub translation_of : Result Rehearsal TranslateError → Result Translation TranslateError
translation_of (Ok r) = Ok (record { count = r.count; end = r.end })
translation_of (Err e) = Err e

-- The refusal's number of document 01, 0 for none, and its byte place: the translation's.
abbrev pub rehearsed_number : Result Rehearsal TranslateError → ℕ
rehearsed_number r = translated_number (translation_of r)

abbrev pub rehearsed_place : Result Rehearsal TranslateError → ℕ
rehearsed_place r = translated_place (translation_of r)

-- Where the answer is a head, W and T hold the words and ticks by which the plan keeps demands 2 and 3, and the head is the one at the end
-- of that run.
unfoldable pub Fulfilled : Head → List ℕ → List ℕ → List ℕ → Result Rehearsal TranslateError → Type 0
Fulfilled s bs W T (Ok r) =
    (r.head ≡ head_after r.end 0 (paired (take r.count T) (take r.count W)) s)
    × Demands s bs (orders_in (plan_of bs)) (paired (take r.count T) (take r.count W)) r.count r.end
Fulfilled s bs W T (Err e) = Unit {0}
