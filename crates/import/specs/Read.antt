-- A list read from text: the line that names the columns, a line for each word, and the end, which may be missing.
-- Assumes nothing.
use Rattle.std.specs.Prelude.{ℕ, ◌+◌, true, false, cond, ◌&&◌, List, [], ◌∷◌, map, eqb, leb, ltb, length, take, drop, Option, Some, None, Result, Ok, Err}
use Prim.Native.Char.{code}
use Rattle.std.proofs.lemmas.List.Edits.{sets}
use Rattle.timed.specs.List.{most_words}
use Rattle.text.specs.Lines.{head_text}
use Rattle.import.specs.Line.{is_text, line_of}
use Rattle.import.specs.declared.line.Line.{Line}
use Rattle.import.specs.declared.line.Line.TheVariants.{Word, End}
use Rattle.import.specs.declared.progress.Progress.{Progress}
use Rattle.import.specs.declared.reasons.Reason.{Reason}
use Rattle.import.specs.declared.reasons.Reason.TheVariants.{NoHeadLine, NoWordLine, NotRising, TooManyWords, AfterEnd, TooLong}
use Rattle.import.specs.declared.reasons.ImportError.{ImportError}
use Rattle.import.specs.declared.reasons.ImportError.TheVariants.{Refused, Short}

-- The numbers of the reasons; they are ours, past those of documents 01 and 02.
abbrev pub no_head_line : ℕ
no_head_line = 91

abbrev pub no_word_line : ℕ
no_word_line = 92

abbrev pub not_rising : ℕ
not_rising = 93

abbrev pub too_many_words : ℕ
too_many_words = 94

abbrev pub after_end : ℕ
after_end = 95

abbrev pub too_long : ℕ
too_long = 96

abbrev pub reason_number : Reason → ℕ
reason_number NoHeadLine = no_head_line
reason_number NoWordLine = no_word_line
reason_number NotRising = not_rising
reason_number TooManyWords = too_many_words
reason_number AfterEnd = after_end
reason_number TooLong = too_long

abbrev pub most_bytes : ℕ
most_bytes = 8192

-- A byte before the lines that follow it: a newline ends a line of its own.
unfoldable pub before : ℕ → List (List ℕ) → List (List ℕ)
before c [] = (c ∷ []) ∷ []
before c (l ∷ ls) = (c ∷ l) ∷ ls

-- The lines of a text; the last one may lack its newline.
unfoldable pub lines : List ℕ → List (List ℕ)
lines [] = []
lines (c ∷ cs) = cond (eqb c (code "\n")) ([] ∷ lines cs) (before c (lines cs))

-- What has been read before the first line: no line, no word, and any tick may come.
abbrev pub begin : Progress
begin = record { refused = None; line = 0; count = 0; least = 0; ended = false }

-- One line more.
abbrev pub next : Progress → Progress
next p = record { refused = p.refused; line = p.line + 1; count = p.count; least = p.least; ended = p.ended }

-- Refused for this reason at the line that was read last.
abbrev pub fault : Progress → Reason → Progress
fault p r = record { refused = Some r; line = p.line; count = p.count; least = p.least; ended = p.ended }

-- One word more, at this tick.
abbrev pub with_word : Progress → ℕ → Progress
with_word p t = record { refused = p.refused; line = p.line; count = p.count + 1; least = t + 1; ended = p.ended }

abbrev pub with_end : Progress → Progress
with_end p = record { refused = p.refused; line = p.line; count = p.count; least = p.least; ended = true }

-- A line after the first: 93 comes before 94.
unfoldable pub by_line : Progress → Option Line → Progress
by_line p (Some (Word t w)) = cond (ltb t p.least) (fault p NotRising) (cond (leb most_words p.count) (fault p TooManyWords) (with_word p t))
by_line p (Some (End t)) = cond (ltb t p.least) (fault p NotRising) (with_end p)
by_line p None = fault p NoWordLine

-- The first line names the columns, and none comes after the end.
abbrev pub judged_line : Progress → List ℕ → Progress
judged_line p l =
    cond (eqb p.line 0) (cond (is_text l head_text) (next p) (fault (next p) NoHeadLine))
    (cond p.ended (fault (next p) AfterEnd)
    (by_line (next p) (line_of l)))

-- After a refusal nothing more is read.
unfoldable pub judged : Progress → List ℕ → Progress
judged p l = elim p.refused [ Some r ↦ p | None ↦ judged_line p l ]

unfoldable pub judged_all : Progress → List (List ℕ) → Progress
judged_all p [] = p
judged_all p (l ∷ ls) = judged_all (judged p l) ls

unfoldable pub read_of : List ℕ → Progress
read_of text = judged_all begin (lines text)

-- A text with no line lacks the first.
unfoldable pub answer_by : Progress → Result ℕ ImportError
answer_by p =
    elim p.refused [
      | Some r ↦ Err (Refused r p.line)
      | None ↦ cond (eqb p.line 0) (Err (Refused NoHeadLine 1)) (Ok p.count)
    ]

-- The length is judged first; its place is the line of the first byte too many.
unfoldable pub import_of : List ℕ → Result ℕ ImportError
import_of text = cond (ltb most_bytes (length text)) (Err (Refused TooLong (length (lines (take (most_bytes + 1) text))))) (answer_by (read_of text))

-- The same with two buffers of so many places: one that has fewer than there are words is judged last.
unfoldable pub with_room : Result ℕ ImportError → ℕ → ℕ → Result ℕ ImportError
with_room (Ok n) a b = cond (leb n a && leb n b) (Ok n) (Err (Short n))
with_room (Err e) a b = Err e

unfoldable pub import_into : List ℕ → ℕ → ℕ → Result ℕ ImportError
import_into text a b = with_room (import_of text) a b

-- The number of each answer; document 01's 10 is that of a short buffer.
abbrev pub import_error_number : ImportError → ℕ
import_error_number (Refused r l) = reason_number r
import_error_number (Short n) = 10

abbrev pub import_number : Result ℕ ImportError → ℕ
import_number (Ok n) = 0
import_number (Err e) = import_error_number e

abbrev pub import_error_line : ImportError → ℕ
import_error_line (Refused r l) = l
import_error_line (Short n) = 0

abbrev pub import_error_count : ImportError → ℕ
import_error_count (Refused r l) = 0
import_error_count (Short n) = n

abbrev pub import_count : Result ℕ ImportError → ℕ
import_count (Ok n) = n
import_count (Err e) = import_error_count e

abbrev pub word_of : Option Line → ℕ
word_of (Some (Word t w)) = w
word_of (Some (End t)) = 0
word_of None = 0

abbrev pub tick_of : Option Line → ℕ
tick_of (Some (Word t w)) = t
tick_of (Some (End t)) = 0
tick_of None = 0

-- The lines of n words: those after the first.
unfoldable pub word_lines_in : ℕ → List ℕ → List (Option Line)
word_lines_in n text = map line_of (take n (drop 1 (lines text)))

unfoldable pub words_in : List ℕ → List ℕ
words_in text = map word_of (word_lines_in (import_count (import_of text)) text)

unfoldable pub ticks_in : List ℕ → List ℕ
ticks_in text = map tick_of (word_lines_in (import_count (import_of text)) text)

-- A list's numbers fill the first places only; otherwise nothing is written.
unfoldable pub import_after : Result ℕ ImportError → List ℕ → List ℕ → List ℕ
import_after (Ok n) numbers old = sets old 0 numbers
import_after (Err e) numbers old = old
