-- What the inspect program prints for the bytes that it reads.
-- Assumes nothing.
use Rattle.std.specs.Prelude.{ℕ, ◌-◌, List, [], ◌∷◌, ◌++◌, Result, Ok, Err}
use Rattle.layout.specs.Numbers.{ascii}
use Rattle.layout.specs.Template.{layout}
use Rattle.import.specs.Read.{no_head_line, reason_number, import_of, words_in, ticks_in}
use Rattle.import.specs.declared.reasons.ImportError.{ImportError}
use Rattle.import.specs.declared.reasons.ImportError.TheVariants.{Refused, Short}
use Rattle.inspection.specs.Inspection.{inspection_text}

-- A refusal in words: number, reason and line; the reasons begin at 91.
unfoldable pub refusal_template : List ℕ
refusal_template =
    ascii "refused @@@: {the first line is not \"tick word\""
    ++ ascii "|not a tick and a word"
    ++ ascii "|the tick is not above the one before"
    ++ ascii "|more than 256 words"
    ++ ascii "|a line after the end"
    ++ ascii "|more than 8,192 bytes} (line @@@@@@@@@@@@@@@@@@@@)\n"

abbrev pub reason_index : ℕ → ℕ
reason_index number = number - no_head_line

unfoldable pub refusal_text : ℕ → ℕ → List ℕ
refusal_text number line = layout refusal_template (number ∷ reason_index number ∷ line ∷ []) []

-- There is room for the words of every list, so that the third answer does not come.
unfoldable pub printed_by : Result ℕ ImportError → List ℕ → List ℕ
printed_by (Ok n) text = inspection_text (words_in text) (ticks_in text)
printed_by (Err (Refused r l)) text = refusal_text (reason_number r) l
printed_by (Err (Short n)) text = []

unfoldable pub printed_for : List ℕ → List ℕ
printed_for text = printed_by (import_of text) text
