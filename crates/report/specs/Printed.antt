-- What the simulation program prints for the bytes that it reads.
-- Assumes nothing.
use Rattle.std.specs.Prelude.{ℕ, cond, List, ltb, length, Result, Ok, Err}
use Rattle.head.specs.State.{power_on}
use Rattle.schedule.specs.Translate.{translate_error_number, translate_error_place}
use Rattle.schedule.specs.declared.TranslateError.{TranslateError}
use Rattle.text.specs.Lines.{too_long_line}
use Rattle.report.specs.Refusal.{refusal_text}
use Rattle.report.specs.Report.{report_text, reported_of}
use Rattle.report.specs.declared.report.Reported.{Reported}

-- A refusal is said in words.
unfoldable pub answer_text : Result Reported TranslateError → List ℕ → List ℕ → List ℕ
answer_text (Ok r) text bs = text
answer_text (Err e) text bs = refusal_text (translate_error_number e) (translate_error_place e) bs

-- At most 4,096 bytes are read, and power-on is the state.
unfoldable pub printed_for : List ℕ → List ℕ
printed_for bs = cond (ltb 4096 (length bs)) too_long_line (answer_text (reported_of power_on bs 65536) (report_text power_on bs) bs)
