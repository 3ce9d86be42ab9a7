-- A plan rehearsed and read without words, and the two records compared number by number.
-- Assumes nothing.
use Rattle.std.specs.Prelude.{ℕ, Bool, List, eqb, length, Result, Ok, Err}
use Rattle.std.specs.Cmp.Lexicographic.{pointwise}
use Rattle.head.specs.declared.state.Head.{Head}
use Rattle.plan.specs.Read.{read_record}
use Rattle.plan.specs.Stored.{Plan, plan_of}
use Rattle.schedule.specs.Schedule.{Schedule}
use Rattle.schedule.specs.Translate.{most_words, schedule_of, translate_of, translate_error_number, translate_error_place}
use Rattle.schedule.specs.declared.Translation.{Translation}
use Rattle.schedule.specs.declared.TranslateError.{TranslateError}
use Rattle.run.specs.Run.{head_after, log_of}
use Rattle.run.specs.Rehearse.{run_of, run_record}
use Rattle.run.specs.declared.compare.Comparison.{Comparison}

-- Two lists have the same numbers, and the same number of them.
abbrev pub same : List ℕ → List ℕ → Bool
same = pointwise eqb

-- The head at the end, the number of words, the end, the number of acts, and whether the head's record is that of the plan read without
-- words. A refusal is the translation's.
unfoldable pub compared_by : Head → Plan → Schedule → Result Translation TranslateError → Result Comparison TranslateError
compared_by s p sch (Ok t) =
    Ok (record {
      head = head_after sch.end 0 sch.list s;
      count = t.count;
      end = t.end;
      acts = length (log_of (run_of s sch));
      equal = same (run_record s sch) (read_record s.settings p);
    })
compared_by s p sch (Err e) = Err e

-- The translation has room for the most words that a plan has.
unfoldable pub compared_of : Head → List ℕ → Result Comparison TranslateError
compared_of s bs = compared_by s (plan_of bs) (schedule_of s (plan_of bs)) (translate_of s bs most_words most_words)

-- The refusal's number of document 01, 0 for none, and its byte place.
abbrev pub compared_number : Result Comparison TranslateError → ℕ
compared_number (Ok c) = 0
compared_number (Err e) = translate_error_number e

abbrev pub compared_place : Result Comparison TranslateError → ℕ
compared_place (Ok c) = 0
compared_place (Err e) = translate_error_place e
