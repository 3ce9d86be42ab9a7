-- How long a line is at most.
-- Assumes nothing.
use mathlib.Core.Path.{refl}
use mathlib.Core.List.{[], ◌∷◌, ◌++◌}
use Prim.Native.Nat.{ℕ, ◌≤◌}
use native.Mathlib.Omega.{arith}
use borrow.Author.Tests.{leb-true}
use lib.Dec.{eqb}
use lib.ListN.{length, length-append}
use Rattle.layout.specs.Numbers.{bit, ascii, hex_of}
use Rattle.layout.proofs.Alternatives.{most_from, most_of, layout-most}
use Rattle.names.specs.Kind.{bare_name}
use Rattle.names.proofs.Columns.{name-few}
use Rattle.diagnosis.specs.declared.Diagnosis.{Diagnosis}
use Rattle.diagnosis.specs.declared.Diagnosis.TheVariants.{Taken, StateOutOfRange, HeadBusy, CoverMoves, UnknownIdentifier, DataOutOfRange, OutOfTurn}
use Rattle.explanation.specs.Explanation.{wait_template, seconds_width, wait_text, unknown_text, range_text, turn_text, explanation_text}

abbrev pub most_line : ℕ
most_line = 80

most-wait : most_of wait_template ≤ most_line
unfolding most_from ascii wait_template
most-wait = leb-true (most_of wait_template) most_line refl

wait-few : (what n : ℕ) → length (wait_text what n) ≤ most_line
unfolding wait_text
wait-few what n =
    omega (arith, layout-most wait_template (what ∷ n ∷ bit (eqb n 1) ∷ seconds_width n ∷ n ∷ what ∷ []) [], most-wait)

range-few : (w k : ℕ) → length (range_text w k) ≤ most_line
unfolding range_text ascii hex_of
range-few w k =
    let first = ascii "the data of word " in
    let range = ascii " are out of the range of " in
    omega (
      arith,
      length-append (first ++ hex_of w ++ range ++ bare_name k) (ascii "\n"),
      length-append (first ++ hex_of w ++ range) (bare_name k),
      length-append (first ++ hex_of w) range,
      length-append first (hex_of w),
      name-few k,
    )

turn-few : (k : ℕ) → length (turn_text k) ≤ most_line
unfolding turn_text ascii
turn-few k =
    let first = ascii "a mirror word out of turn: " in
    let last = ascii " was due\n" in
    omega (arith, length-append (first ++ bare_name k) last, length-append first (bare_name k), name-few k)

pub explanation-few : (d : Diagnosis) → length (explanation_text d) ≤ most_line
unfolding explanation_text unknown_text ascii hex_of
explanation-few Taken = leb-true (length (ascii "taken\n")) most_line refl
explanation-few StateOutOfRange = leb-true (length (ascii "the state is out of range\n")) most_line refl
explanation-few (HeadBusy n) = wait-few 0 n
explanation-few (CoverMoves n) = wait-few 1 n
explanation-few (UnknownIdentifier w) =
    let first = ascii "no kind has the identifier of word " in
    omega (arith, length-append (first ++ hex_of w) (ascii "\n"), length-append first (hex_of w))
explanation-few (DataOutOfRange w k) = range-few w k
explanation-few (OutOfTurn k) = turn-few k
