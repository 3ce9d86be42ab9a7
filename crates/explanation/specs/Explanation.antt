-- Document 02, request P7, in plain words: one line for each case of a diagnosis.
-- Assumes nothing.
use Rattle.std.specs.Prelude.{ℕ, cond, List, [], ◌∷◌, ◌++◌, eqb, ltb}
use Rattle.layout.specs.Numbers.{bit, ascii, hex_of}
use Rattle.layout.specs.Template.{layout}
use Rattle.names.specs.Kind.{bare_name}
use Rattle.diagnosis.specs.declared.Diagnosis.{Diagnosis}
use Rattle.diagnosis.specs.declared.Diagnosis.TheVariants.{Taken, StateOutOfRange, HeadBusy, CoverMoves, UnknownIdentifier, DataOutOfRange, OutOfTurn}

-- The ticks for which the head is busy (0) or the cover moves (1), in ticks and in seconds.
unfoldable pub wait_template : List ℕ
wait_template =
    ascii "{the head is busy|the cover moves}: @@@@@ tick{s|} left, {%%%%|%%%%%|%%%%%%} s; {only STOP|no COVER} is taken\n"

-- Which field has just as many columns as the seconds of n ticks: 9.99 has four, 99.99 five.
unfoldable pub seconds_width : ℕ → ℕ
seconds_width n = cond (ltb n 1000) 0 (cond (ltb n 10000) 1 2)

unfoldable pub wait_text : ℕ → ℕ → List ℕ
wait_text what n = layout wait_template (what ∷ n ∷ bit (eqb n 1) ∷ seconds_width n ∷ n ∷ what ∷ []) []

unfoldable pub unknown_text : ℕ → List ℕ
unknown_text w = ascii "no kind has the identifier of word " ++ hex_of w ++ ascii "\n"

unfoldable pub range_text : ℕ → ℕ → List ℕ
range_text w k = ascii "the data of word " ++ hex_of w ++ ascii " are out of the range of " ++ bare_name k ++ ascii "\n"

unfoldable pub turn_text : ℕ → List ℕ
turn_text k = ascii "a mirror word out of turn: " ++ bare_name k ++ ascii " was due\n"

unfoldable pub explanation_text : Diagnosis → List ℕ
explanation_text Taken = ascii "taken\n"
explanation_text StateOutOfRange = ascii "the state is out of range\n"
explanation_text (HeadBusy n) = wait_text 0 n
explanation_text (CoverMoves n) = wait_text 1 n
explanation_text (UnknownIdentifier w) = unknown_text w
explanation_text (DataOutOfRange w k) = range_text w k
explanation_text (OutOfTurn k) = turn_text k
