-- What the exported functions that write the two operators' texts answer, and the array that they leave (document 02, request P6).
-- Assumes nothing.
use Rattle.std.specs.Prelude.{ℕ, Bool, ◌&&◌, List, leb, Result, Ok, Err}
use Rattle.interface.specs.Plans.{packed}
use Rattle.merged.specs.Text.{merged_text, merged_texts_of}
use Rattle.import.specs.Read.{import_error_number, import_error_line}
use Rattle.merged.specs.declared.printed.MergeTextsError.{MergeTextsError}
use Rattle.merged.specs.declared.printed.MergeTextsError.TheVariants.{Unread, SameTick}
use Rattle.texts.specs.Texts.{has_room, text_after, room_answer}

-- The number in bits 0-7, 10 where there is no room for the text. For a text that is no list whose it is in bits 8-23, and the line in
-- bits 32-63; otherwise the length of the text there.
unfoldable pub merge_answer_by : Result ℕ MergeTextsError → List ℕ → List ℕ → ℕ
merge_answer_by (Ok n) text old = room_answer text old
merge_answer_by (Err (Unread g e)) text old = packed (import_error_number e) g (import_error_line e)
merge_answer_by (Err SameTick) text old = packed 53 0 0

unfoldable pub merge_texts_answer : List ℕ → List ℕ → List ℕ → ℕ
merge_texts_answer x y old = merge_answer_by (merged_texts_of x y) (merged_text x y) old

-- A refusal writes nothing.
unfoldable pub merge_left_by : Result ℕ MergeTextsError → List ℕ → List ℕ → List ℕ
merge_left_by (Ok n) text old = text_after (has_room text old) text old
merge_left_by (Err e) text old = old

unfoldable pub merge_texts_left : List ℕ → List ℕ → List ℕ → List ℕ
merge_texts_left x y old = merge_left_by (merged_texts_of x y) (merged_text x y) old

-- A refusal of a word or of merging has a number of 51-54; no other has words.
unfoldable pub is_operator_refusal : ℕ → Bool
is_operator_refusal number = leb 51 number && leb number 54
