-- Document 01, "Examples": the listing of a plan, and what the listing program prints for the bytes that it reads.
-- Assumes nothing.
use Rattle.std.specs.Prelude.{ℕ, cond, List, ◌++◌, ltb, length, Result, Ok, Err}
use Rattle.head.specs.State.{power_on}
use Rattle.head.specs.declared.state.Head.{Head}
use Rattle.plan.specs.Stored.{plan_of}
use Rattle.schedule.specs.Schedule.{Schedule}
use Rattle.schedule.specs.Translate.{most_words, schedule_of, translate_of, filled, tick_list, word_list, translate_error_number, translate_error_place}
use Rattle.schedule.specs.declared.Translation.{Translation}
use Rattle.schedule.specs.declared.TranslateError.{TranslateError}
use Rattle.text.specs.Lines.{head_line, word_lines, end_line, refusal_line, too_long_line}

-- Ticks with their words, and the end.
unfoldable pub listing_of : List ℕ → List ℕ → ℕ → List ℕ
listing_of ticks words end = head_line ++ word_lines ticks words ++ end_line end

-- The listing of a schedule.
abbrev pub schedule_text : Schedule → List ℕ
schedule_text sch = listing_of (tick_list sch) (word_list sch) sch.end

-- The listing of a plan for a head.
unfoldable pub plan_text : Head → List ℕ → List ℕ
plan_text s bs = schedule_text (schedule_of s (plan_of bs))

-- The refusal's number of document 01, 0 for none, and its byte place.
abbrev pub listing_number : Result ℕ TranslateError → ℕ
listing_number (Ok n) = 0
listing_number (Err e) = translate_error_number e

abbrev pub listing_place : Result ℕ TranslateError → ℕ
listing_place (Ok n) = 0
listing_place (Err e) = translate_error_place e

-- What an answer of translation gives, where the listing has so many bytes.
unfoldable pub listed_by : Result Translation TranslateError → ℕ → Result ℕ TranslateError
listed_by (Ok t) long = Ok long
listed_by (Err e) long = Err e

-- The answer for a head and a plan; there is room for the words of every plan.
unfoldable pub listed_of : Head → List ℕ → Result ℕ TranslateError
listed_of s bs = listed_by (translate_of s bs most_words most_words) (length (plan_text s bs))

-- The bytes after it: the listing at the front, and every other place as it was; a refusal writes nothing.
unfoldable pub listed_after : Head → List ℕ → List ℕ → List ℕ
listed_after s bs old = filled (translate_of s bs most_words most_words) (plan_text s bs) old

-- What is printed of an answer.
unfoldable pub answer_text : Result ℕ TranslateError → List ℕ → List ℕ
answer_text (Ok n) text = text
answer_text (Err e) text = refusal_line (translate_error_number e) (translate_error_place e)

-- At most 4,096 bytes are read, and power-on is the state.
unfoldable pub printed_for : List ℕ → List ℕ
printed_for bs = cond (ltb 4096 (length bs)) too_long_line (answer_text (listed_of power_on bs) (plan_text power_on bs))
