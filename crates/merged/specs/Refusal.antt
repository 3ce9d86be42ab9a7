-- Request P6's refusals in words.
-- Assumes nothing.
use Rattle.std.specs.Prelude.{ℕ, ◌-◌, List, [], ◌∷◌, ◌++◌}
use Rattle.layout.specs.Numbers.{ascii}
use Rattle.layout.specs.Template.{layout}

-- Number and reason; the reasons begin at 51.
unfoldable pub refusal_template : List ℕ
refusal_template =
    ascii "refused @@@: {the word is not passed on: not allowed, not in the operator's group, or the head is busy"
    ++ ascii "|the ticks of a list do not rise"
    ++ ascii "|the same tick in both lists"
    ++ ascii "|no room for the merged part}\n"

abbrev pub reason_index : ℕ → ℕ
reason_index number = number - 51

unfoldable pub refusal_text : ℕ → List ℕ
refusal_text number = layout refusal_template (number ∷ reason_index number ∷ []) []
