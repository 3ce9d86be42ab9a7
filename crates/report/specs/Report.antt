-- The report of a plan, computed from a state: the ticks until it is idle and at rest pass first.
-- Assumes nothing.
use Rattle.std.specs.Prelude.{ℕ, ◌+◌, min, not, List, [], ◌∷◌, ◌++◌, length, Result, Ok, Err}
use Rattle.std.proofs.lemmas.List.Edits.{sets}
use Rattle.head.specs.Busy.{rest_ticks}
use Rattle.head.specs.Tick.{ticks_of}
use Rattle.head.specs.Numbers.{is_cause}
use Rattle.head.specs.List.{numbers_listed}
use Rattle.head.specs.declared.state.Head.{Head}
use Rattle.plan.specs.Reading.{Entry}
use Rattle.plan.specs.Read.{read_record}
use Rattle.plan.specs.Stored.{plan_of, orders_in}
use Rattle.schedule.specs.Translate.{schedule_of, tick_list, word_list, translate_error_number, translate_error_place}
use Rattle.schedule.specs.declared.TranslateError.{TranslateError}
use Rattle.run.specs.Run.{head_after, log_of}
use Rattle.run.specs.Rehearse.{run_of, run_record}
use Rattle.run.specs.Compare.{same, compared_of}
use Rattle.run.specs.declared.compare.Comparison.{Comparison}
use Rattle.layout.specs.Numbers.{bit}
use Rattle.report.specs.Lines.{order_lines}
use Rattle.report.specs.Opening.{opening_text}
use Rattle.report.specs.Ending.{ending_text}
use Rattle.report.specs.declared.ending.Outcome.{Outcome}
use Rattle.report.specs.declared.report.Start.{Start}
use Rattle.report.specs.declared.report.Reported.{Reported}

-- The state once it is idle and nothing moves.
abbrev pub rested : Head → Head
rested s = ticks_of (rest_ticks s) s

-- How many outcomes are of words that were taken.
unfoldable pub taken_in : List ℕ → ℕ
taken_in [] = 0
taken_in (n ∷ ns) = bit (not (is_cause n)) + taken_in ns

-- The plan's bytes, orders and words and the state; its orders line by line, with the ticks of its words and the head's log; the head at
-- the end, and what came of the plan.
unfoldable pub text_of : List ℕ → List ℕ → List Entry → Start → Head → Outcome → List ℕ
text_of bs ticks log start last o =
    let os = orders_in (plan_of bs) in
    opening_text (record { bytes = length bs; orders = length os; words = o.words }) start.given start.rest start.head
    ++ order_lines 0 0 0 start.head.settings os ticks log
    ++ ending_text start.head last o

-- The same of a plan that is simulated on a head once it is idle and at rest: how many words the head took, and whether what it did is
-- what the plan says.
unfoldable pub report_text : Head → List ℕ → List ℕ
report_text given bs =
    let s = rested given in
    let sch = schedule_of s (plan_of bs) in
    text_of bs (tick_list sch) (log_of (run_of s sch)) (record { given = given; rest = rest_ticks given; head = s })
    (head_after sch.end 0 sch.list s)
    (record {
      end = sch.end;
      words = length sch.list;
      taken = taken_in (numbers_listed (word_list sch) (tick_list sch) s);
      equal = same (run_record s sch) (read_record s.settings (plan_of bs));
    })

-- The head at the end, and the length of the text as far as there is room for it. A refusal is the comparison's.
unfoldable pub reported_by : List ℕ → ℕ → Result Comparison TranslateError → Result Reported TranslateError
reported_by text room (Ok c) = Ok (record { head = c.head; length = min (length text) room })
reported_by text room (Err e) = Err e

unfoldable pub reported_of : Head → List ℕ → ℕ → Result Reported TranslateError
reported_of given bs room = reported_by (report_text given bs) room (compared_of (rested given) bs)

-- The text from the first place on, as far as there is room for it; a refusal writes nothing.
unfoldable pub report_after : Result Reported TranslateError → List ℕ → List ℕ → List ℕ
report_after (Ok r) text old = sets old 0 text
report_after (Err e) text old = old

-- The refusal's number of document 01, 0 for none, and its byte place.
abbrev pub reported_number : Result Reported TranslateError → ℕ
reported_number (Ok r) = 0
reported_number (Err e) = translate_error_number e

abbrev pub reported_place : Result Reported TranslateError → ℕ
reported_place (Ok r) = 0
reported_place (Err e) = translate_error_place e
