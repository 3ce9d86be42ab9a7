-- What the exported translation answers.
-- Assumes nothing.
use Rattle.std.specs.Prelude.{ℕ, ◌+◌, ◌*◌, ◌<◌, ◌^◌, cond, List, Result, Ok, Err}
use Rattle.schedule.specs.Translate.{translate_of, translated_number, translated_place}
use Rattle.schedule.specs.declared.Translation.{Translation}
use Rattle.schedule.specs.declared.TranslateError.{TranslateError}
use Rattle.head.specs.Row.{state_of}
use Rattle.interface.specs.State.{well_formed}

-- Document 01's 1 stands for an array that is not well formed too. The buffers' lengths are a and b.
unfoldable pub translated_of : List ℕ → List ℕ → ℕ → ℕ → Result Translation TranslateError
translated_of l bs a b = cond (well_formed l) (translate_of (state_of l) bs a b) (Err TranslateError.StateUnfit)

-- The count of a success, and of 10.
unfoldable pub count_in : Result Translation TranslateError → ℕ
count_in (Ok t) = t.count
count_in (Err TranslateError.StateUnfit) = 0
count_in (Err (TranslateError.Plan r)) = 0
count_in (Err (TranslateError.Short n)) = n

-- The end of a success, and a refusal's place.
unfoldable pub last_in : Result Translation TranslateError → ℕ
last_in (Ok t) = t.end
last_in (Err e) = translated_place (Err e)

-- The number in bits 0-7, the count in bits 8-23, the end or the place in bits 32-63.
abbrev pub packed : ℕ → ℕ → ℕ → ℕ
packed number count last = number + 0x100 * count + 0x100000000 * last

unfoldable pub translated_answer : Result Translation TranslateError → ℕ
translated_answer t = packed (translated_number t) (count_in t) (last_in t)

-- The bits suffice.
abbrev pub Small : Result Translation TranslateError → Type 0
Small t = (count_in t < 2 ^ 16) × (last_in t < 2 ^ 32)
