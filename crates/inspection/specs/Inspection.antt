-- The inspection of a list that is given to a head at power-on.
-- Assumes nothing.
use Rattle.std.specs.Prelude.{ℕ, min, cond, List, [], ◌∷◌, ◌++◌, eqb, length, Result, Ok, Err}
use Rattle.std.proofs.lemmas.List.Edits.{sets}
use Rattle.timed.specs.List.{is_list}
use Rattle.head.specs.State.{power_on}
use Rattle.head.specs.List.{head_listed, list_error_number}
use Rattle.head.specs.declared.state.Settings.{Settings}
use Rattle.head.specs.declared.state.Head.{Head}
use Rattle.head.specs.declared.list.ListError.TheVariants.{ListRefused}
use Rattle.layout.specs.Numbers.{ascii}
use Rattle.layout.specs.Template.{layout}
use Rattle.registers.specs.Settings.{settings_text}
use Rattle.inspection.specs.Notes.{set_text}
use Rattle.inspection.specs.Rows.{words_text}
use Rattle.inspection.specs.Counts.{none, counts_from}
use Rattle.inspection.specs.declared.counts.Counts.{Counts}
use Rattle.inspection.specs.declared.inspection.Inspection.{Inspection}
use Rattle.inspection.specs.declared.inspection.InspectError.{InspectError}
use Rattle.inspection.specs.declared.inspection.InspectError.TheVariants.{NoList}

unfoldable pub title_template : List ℕ
title_template = ascii "line        tick  word  outcome     kind         what its data mean, and what the head does\n"

unfoldable pub title_text : List ℕ
title_text = layout title_template [] []

unfoldable pub settings_template : List ℕ
settings_template = ascii "\nsettings at the end; * marks what is new since power-on\n"

unfoldable pub counts_template : List ℕ
counts_template =
    ascii "words @@@, ignored @@@, exposures @@@, with an incomplete mirror set @@@, while something moved @@@\n"

-- A set that the list leaves incomplete.
unfoldable pub left_text : ℕ → List ℕ
left_text received = set_text (cond (eqb received 0) 0 4) received

unfoldable pub counts_text : ℕ → Counts → List ℕ
counts_text words c = layout counts_template (words ∷ c.ignored ∷ c.exposures ∷ c.incomplete ∷ c.moving ∷ []) []

unfoldable pub last_settings : Settings → Settings → List ℕ
last_settings last start = layout settings_template [] [] ++ settings_text last start

-- After the last word: such a set, the settings, and the counts.
unfoldable pub end_text : Head → ℕ → Counts → List ℕ
end_text z words c =
    left_text z.begun.count ++ last_settings z.settings power_on.settings ++ counts_text words c

abbrev pub counts_of : List ℕ → List ℕ → Counts
counts_of ws ts = counts_from none ws ts power_on

-- The first word stands on line 2 of a text list.
unfoldable pub inspection_text : List ℕ → List ℕ → List ℕ
inspection_text ws ts =
    title_text ++ words_text 2 ws ts power_on ++ end_text (head_listed ws ts power_on) (length ws) (counts_of ws ts)

abbrev pub inspection : ℕ → Counts → Inspection
inspection n c = record { length = n; counts = c }

-- Words and ticks that make no list are refused with request P1's number, and nothing is written. The length counts as far as there is
-- room for the text.
unfoldable pub inspected_of : List ℕ → List ℕ → ℕ → Result Inspection InspectError
inspected_of ws ts room =
    cond (is_list ws ts) (Ok (inspection (min (length (inspection_text ws ts)) room) (counts_of ws ts))) (Err NoList)

unfoldable pub inspection_after : Result Inspection InspectError → List ℕ → List ℕ → List ℕ
inspection_after (Ok i) text old = sets old 0 text
inspection_after (Err e) text old = old

abbrev pub inspect_error_number : InspectError → ℕ
inspect_error_number NoList = list_error_number ListRefused

abbrev pub inspected_number : Result Inspection InspectError → ℕ
inspected_number (Ok i) = 0
inspected_number (Err e) = inspect_error_number e
