-- A line for each word: its line number in the input, its tick, the word, the outcome, its kind and data; and the notes below it.
-- Assumes nothing.
use Rattle.std.specs.Prelude.{ℕ, ◌+◌, cond, List, [], ◌∷◌, ◌++◌}
use Rattle.head.specs.Busy.{busy_ticks}
use Rattle.head.specs.Word.{answer_of}
use Rattle.head.specs.Numbers.{outcome_number, is_cause}
use Rattle.head.specs.List.{stepped}
use Rattle.head.specs.declared.state.Head.{Head}
use Rattle.layout.specs.Numbers.{bit, ascii, hex_of}
use Rattle.layout.specs.Template.{layout}
use Rattle.registers.specs.Settings.{pair_text}
use Rattle.inspection.specs.Meaning.{meaning_text, kind_text}
use Rattle.inspection.specs.Notes.{is_exposure, notes_text}

unfoldable pub place_template : List ℕ
place_template = ascii "####  ##########  "

unfoldable pub outcome_template : List ℕ
outcome_template = ascii "  {taken     |ignored @@}  "

unfoldable pub tick_text : ℕ → ℕ → List ℕ
tick_text line tick = layout place_template (line ∷ tick ∷ []) []

unfoldable pub outcome_text : ℕ → List ℕ
outcome_text n = layout outcome_template (bit (is_cause n) ∷ n ∷ []) []

-- Line, tick, word and outcome.
unfoldable pub place_text : ℕ → ℕ → ℕ → ℕ → List ℕ
place_text line tick w n = tick_text line tick ++ hex_of w ++ outcome_text n

-- What its data mean; an exposure has the mirror pair that the head then really has, and its length.
unfoldable pub saying_text : ℕ → ℕ → ℕ → ℕ → ℕ → List ℕ
saying_text n w sine cosine ticks = cond (is_exposure n) (pair_text sine cosine ticks) (meaning_text w)

-- The outcome's number of a word, and the head that has got it, are request P1's.
abbrev pub number_of : Head → ℕ → ℕ
number_of s w = outcome_number (answer_of s w).outcome

unfoldable pub word_text : ℕ → ℕ → ℕ → Head → List ℕ
word_text line tick w s =
    let n = number_of s w in
    let z = (answer_of s w).head in
    place_text line tick w n ++ kind_text w ++ saying_text n w z.settings.sine z.settings.cosine (busy_ticks z) ++ notes_text n w s z

-- The words of a list from the head s on; the first is on this line of the input.
unfoldable pub words_text : ℕ → List ℕ → List ℕ → Head → List ℕ
words_text line [] ts s = []
words_text line (w ∷ ws) [] s = []
words_text line (w ∷ ws) (t ∷ ts) s = word_text line t w s ++ words_text (line + 1) ws ts (stepped s w t ts)
