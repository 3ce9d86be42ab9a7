-- Document 01, "Plans": what translation answers, and what it leaves in the two buffers.
-- Assumes nothing.
use Rattle.std.specs.Prelude.{ℕ, ◌*◌, Bool, cond, not, ◌&&◌, List, [], map, ◌++◌, leb, eqb, length, take, drop, Result, Ok, Err}
use Rattle.head.specs.Busy.{is_busy, at_rest}
use Rattle.head.specs.Range.{in_range}
use Rattle.head.specs.declared.state.Head.{Head}
use Rattle.orders.specs.Words.{items_of_all}
use Rattle.orders.specs.declared.encoding.Words.{Words}
use Rattle.plan.specs.Stored.{Plan, orders, refused, most_orders, plan_of, plan_number, plan_place}
use Rattle.plan.specs.Judged.{refusal_number, refusal_of}
use Rattle.schedule.specs.Schedule.{Timed, Schedule, schedule_from}
use Rattle.schedule.specs.declared.Translation.{Translation}
use Rattle.schedule.specs.declared.TranslateError.{TranslateError}

-- In range, idle, and nothing moving.
unfoldable pub fit : Head → Bool
fit s = in_range s && not (is_busy s) && at_rest s

-- An order has at most four words, so a plan has at most 256.
abbrev pub most_words : ℕ
most_words = 4 * most_orders

-- The schedule of a plan that is read; the clock starts at 0.
unfoldable pub schedule_of : Head → Plan → Schedule
schedule_of s (orders os) = schedule_from s 0 (items_of_all os)
schedule_of s (refused n p) = record { list = []; end = 0 }

-- 10: either buffer shorter than the count.
unfoldable pub answer_of_plan : Plan → Schedule → ℕ → ℕ → Result Translation TranslateError
answer_of_plan (refused n p) sch a b = Err (TranslateError.Plan (refusal_of n p))
answer_of_plan (orders os) sch a b =
    cond (leb (length sch.list) a && leb (length sch.list) b)
    (Ok (record { count = length sch.list; end = sch.end }))
    (Err (TranslateError.Short (length sch.list)))

-- 1: state out of range, busy, or anything moving; then 2-9, then 10. The buffers' lengths are a and b.
unfoldable pub translate_of : Head → List ℕ → ℕ → ℕ → Result Translation TranslateError
translate_of s bs a b =
    cond (fit s) (answer_of_plan (plan_of bs) (schedule_of s (plan_of bs)) a b) (Err TranslateError.StateUnfit)

-- A refusal writes to neither buffer; success fills the first count places only.
unfoldable pub filled : Result Translation TranslateError → List ℕ → List ℕ → List ℕ
filled (Ok t) values old = values ++ drop (length values) old
filled (Err e) values old = old

abbrev pub tick_list : Schedule → List ℕ
tick_list sch = map (λ (x : Timed). x.tick) sch.list

abbrev pub word_list : Schedule → List ℕ
word_list sch = map (λ (x : Timed). x.word) sch.list

-- The words that a counted array holds.
abbrev pub words_in : Words → List ℕ
words_in ws = take ws.count ws.list

-- The refusal table's number of an error, and its byte place.
abbrev pub translate_error_number : TranslateError → ℕ
translate_error_number TranslateError.StateUnfit = 1
translate_error_number (TranslateError.Plan r) = refusal_number r
translate_error_number (TranslateError.Short n) = 10

abbrev pub translate_error_place : TranslateError → ℕ
translate_error_place TranslateError.StateUnfit = 0
translate_error_place (TranslateError.Plan r) = r.place
translate_error_place (TranslateError.Short n) = 0

-- The refusal's number of document 01, 0 for none, and its byte place.
abbrev pub translated_number : Result Translation TranslateError → ℕ
translated_number (Ok t) = 0
translated_number (Err e) = translate_error_number e

abbrev pub translated_place : Result Translation TranslateError → ℕ
translated_place (Ok t) = 0
translated_place (Err e) = translate_error_place e

-- The same from the state, the plan and the buffers' lengths themselves, in order of checks; the place of 1 and 10 is 0.
unfoldable pub translation_number : Head → List ℕ → ℕ → ℕ → ℕ
translation_number s bs a b =
    let count = length (schedule_of s (plan_of bs)).list in
    cond (not (fit s)) 1
    (cond (not (eqb (plan_number (plan_of bs)) 0)) (plan_number (plan_of bs))
    (cond (not (leb count a && leb count b)) 10 0))

unfoldable pub translation_place : Head → List ℕ → ℕ
translation_place s bs = cond (not (fit s)) 0 (plan_place (plan_of bs))
