-- A plan read without words, in numbers: the answer, and what it leaves in the buffer that is lent.
-- Assumes nothing.
use Rattle.std.specs.Prelude.{ℕ, List, [], ◌++◌, length, drop, Result, Ok, Err}
use Rattle.head.specs.declared.state.Settings.{Settings}
use Rattle.plan.specs.Stored.{Plan, orders, refused}
use Rattle.plan.specs.Reading.{settings_read, log_read}
use Rattle.plan.specs.Rows.{record_of}
use Rattle.plan.specs.Judged.{refusal_of, judged_number, judged_place}
use Rattle.plan.specs.declared.stored.Refusal.{Refusal}

-- The number of acts, or the refusal.
unfoldable pub read_of : Settings → Plan → Result ℕ Refusal
read_of r (orders os) = Ok (length (log_read r os))
read_of r (refused n p) = Err (refusal_of n p)

-- The log and the settings at the end; a plan that is refused has no record.
unfoldable pub read_record : Settings → Plan → List ℕ
read_record r (orders os) = record_of (log_read r os) (settings_read r os)
read_record r (refused n p) = []

-- Values in the first places of a buffer, every other place as it was.
unfoldable pub at_front : List ℕ → List ℕ → List ℕ
at_front values old = values ++ drop (length values) old

-- The refusal's number of document 01, 0 for none, and its byte place: the judge's.
abbrev pub read_number : Result ℕ Refusal → ℕ
read_number = judged_number

abbrev pub read_place : Result ℕ Refusal → ℕ
read_place = judged_place
