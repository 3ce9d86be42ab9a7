-- Two text lists merged into one (document 02, request P6).
-- Assumes nothing.
use Rattle.std.specs.Prelude.{ℕ, ◌+◌, ◌*◌, ◌≤◌, ◌≡◌, true, cond, not, List, [], ◌∷◌, ◌++◌, eqb, length, drop, Result, Ok, Err}
use Rattle.words.specs.Kinds.{ccd, infrared}
use Rattle.timed.specs.List.{rising}
use Rattle.text.specs.Lines.{head_line, word_line}
use Rattle.import.specs.Read.{import_of, import_error_number, import_number, words_in, ticks_in}
use Rattle.merge.specs.Merge.{tick_in, word_in, ticks_in as entry_ticks, merge, share_tick}
use Rattle.import.specs.declared.reasons.ImportError.{ImportError}
use Rattle.merged.specs.declared.printed.MergeTextsError.{MergeTextsError}
use Rattle.merged.specs.declared.printed.MergeTextsError.TheVariants.{Unread, SameTick}

-- Ticks and words as entries, tick x 65,536 + word.
unfoldable pub entries : List ℕ → List ℕ → List ℕ
entries [] ws = []
entries (t ∷ ts) [] = []
entries (t ∷ ts) (w ∷ ws) = (t * 65536 + w) ∷ entries ts ws

-- The entries of a text list.
unfoldable pub entries_in : List ℕ → List ℕ
entries_in text = entries (ticks_in text) (words_in text)

-- A line for each entry.
unfoldable pub entry_lines : List ℕ → List ℕ
entry_lines [] = []
entry_lines (e ∷ es) = word_line (tick_in e) (word_in e) ++ entry_lines es

-- The merge of two lists of entries as a text list, with no end.
unfoldable pub merge_text : List ℕ → List ℕ → List ℕ
merge_text xs ys = head_line ++ entry_lines (merge xs ys)

-- The merge of two text lists.
unfoldable pub merged_text : List ℕ → List ℕ → List ℕ
merged_text x y = merge_text (entries_in x) (entries_in y)

-- Room for every merge as text.
abbrev pub longest : ℕ
longest = 16384

-- The most entries of two lists.
abbrev pub most_merged : ℕ
most_merged = 512

-- Two lists of entries as texts give them: the ticks of each rise, and there is room for the entries of both and for their text.
pub record Mergeable (xs ys : List ℕ) : Type 0 where
  pub ccd-rises : rising (entry_ticks xs) ≡ true
  pub infrared-rises : rising (entry_ticks ys) ≡ true
  pub few : length xs + length ys ≤ most_merged
  pub fits : length (merge_text xs ys) ≤ longest

-- What is answered of two lists: 53, the same tick in both.
unfoldable pub merged_by : List ℕ → List ℕ → Result ℕ MergeTextsError
merged_by xs ys = cond (share_tick xs ys) (Err SameTick) (Ok (length (merge_text xs ys)))

-- What is answered of two texts: the first that is no list, with whose it is; then 53.
abbrev pub unread_or : ℕ → Result ℕ ImportError → Result ℕ MergeTextsError → Result ℕ MergeTextsError
unread_or list (Ok n) others = others
unread_or list (Err e) others = Err (Unread list e)

unfoldable pub merged_texts_of : List ℕ → List ℕ → Result ℕ MergeTextsError
merged_texts_of x y = unread_or ccd (import_of x) (unread_or infrared (import_of y) (merged_by (entries_in x) (entries_in y)))

-- The number of each answer, and the same numbers from the texts themselves.
abbrev pub merge_texts_error_number : MergeTextsError → ℕ
merge_texts_error_number (Unread g e) = import_error_number e
merge_texts_error_number SameTick = 53

unfoldable pub merged_texts_number : Result ℕ MergeTextsError → ℕ
merged_texts_number (Ok n) = 0
merged_texts_number (Err e) = merge_texts_error_number e

unfoldable pub merge_texts_number : List ℕ → List ℕ → ℕ
merge_texts_number x y =
    cond (not (eqb (import_number (import_of x)) 0)) (import_number (import_of x))
    (cond (not (eqb (import_number (import_of y)) 0)) (import_number (import_of y))
    (cond (share_tick (entries_in x) (entries_in y)) 53 0))

-- The output: the text in the first places, and every other as it was; a refusal writes nothing.
unfoldable pub text_after : Result ℕ MergeTextsError → List ℕ → List ℕ → List ℕ
text_after (Ok n) text old = text ++ drop (length text) old
text_after (Err e) text old = old
