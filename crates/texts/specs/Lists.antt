-- What the exported functions about lists as text answer, and the arrays that they leave: reading, the inspection, and a refusal in words.
-- Assumes nothing.
use Rattle.std.specs.Prelude.{ℕ, Bool, cond, ◌&&◌, List, leb, length, Result, Ok, Err}
use Rattle.timed.specs.List.{is_list}
use Rattle.interface.specs.Plans.{packed}
use Rattle.import.specs.Read.{no_head_line, too_long, import_into, import_number, words_in, ticks_in, import_after}
use Rattle.import.specs.declared.reasons.ImportError.{ImportError}
use Rattle.import.specs.declared.reasons.ImportError.TheVariants.{Refused, Short}
use Rattle.inspection.specs.Counts.{findings}
use Rattle.inspection.specs.Inspection.{counts_of, inspection_text, inspected_number}
use Rattle.inspection.specs.declared.inspection.InspectError.TheVariants.{NoList}
use Rattle.imported.specs.Printed.{refusal_text}
use Rattle.texts.specs.Texts.{has_room, text_after, counted_answer}

-- The number of words, or the line of a refusal.
unfoldable pub read_place : Result ℕ ImportError → ℕ
read_place (Ok n) = n
read_place (Err (Refused r l)) = l
read_place (Err (Short n)) = n

-- The number in bits 0-7, and the place in bits 32-63. The two numbers are those of the places of the arrays.
unfoldable pub read_answer : List ℕ → ℕ → ℕ → ℕ
read_answer text a b = let r = import_into text a b in packed (import_number r) 0 (read_place r)

unfoldable pub words_left : List ℕ → List ℕ → List ℕ → List ℕ
words_left text ws ts = import_after (import_into text (length ws) (length ts)) (words_in text) ws

unfoldable pub ticks_left : List ℕ → List ℕ → List ℕ → List ℕ
ticks_left text ws ts = import_after (import_into text (length ws) (length ts)) (ticks_in text) ts

-- The findings in bits 8-23. Words and ticks that make no list have request P1's number.
unfoldable pub inspection_answer : List ℕ → List ℕ → List ℕ → ℕ
inspection_answer ws ts old =
    cond (is_list ws ts) (counted_answer (findings (counts_of ws ts)) (inspection_text ws ts) old) (packed (inspected_number (Err NoList)) 0 0)

unfoldable pub inspection_left : List ℕ → List ℕ → List ℕ → List ℕ
inspection_left ws ts old = let text = inspection_text ws ts in text_after (is_list ws ts && has_room text old) text old

-- A refusal of a text has a number of 91-96; no other has words.
unfoldable pub is_list_refusal : ℕ → Bool
is_list_refusal number = leb no_head_line number && leb number too_long

-- The length of the words, 0 where nothing is written.
unfoldable pub list_refusal_length : ℕ → ℕ → List ℕ → ℕ
list_refusal_length number line old =
    let text = refusal_text number line in
    cond (is_list_refusal number && has_room text old) (length text) 0

unfoldable pub list_refusal_left : ℕ → ℕ → List ℕ → List ℕ
list_refusal_left number line old =
    let text = refusal_text number line in
    text_after (is_list_refusal number && has_room text old) text old
