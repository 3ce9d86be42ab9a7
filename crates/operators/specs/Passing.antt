-- Document 02, request P6: the controller passes an operator's word on to the head, or refuses it.
-- Assumes nothing.
use Rattle.std.specs.Prelude.{ℕ, Bool, false, cond, not, ◌&&◌, ◌||◌, eqb, Result, Ok, Err}
use Rattle.words.specs.Kinds.{ccd, infrared, group_of}
use Rattle.words.specs.Codec.{decode_of}
use Rattle.words.specs.declared.Word.{Word}
use Rattle.words.specs.declared.DecodeError.{DecodeError}
use Rattle.head.specs.Range.{in_range}
use Rattle.head.specs.Busy.{is_busy}
use Rattle.head.specs.Word.{answer_of}
use Rattle.head.specs.Numbers.{outcome_number, answer_number}
use Rattle.head.specs.declared.state.Head.{Head}
use Rattle.head.specs.declared.word.Outcome.{Outcome}
use Rattle.operators.specs.declared.PassError.{PassError}
use Rattle.operators.specs.declared.PassError.TheVariants.{StateRefused, NotPassed}
use Rattle.operators.specs.declared.PassedOn.{PassedOn}

-- An operator has the CCD words or the infrared words; the controller is none.
unfoldable pub is_operator : ℕ → Bool
is_operator g = eqb g ccd || eqb g infrared

-- The word is allowed, and its kind is in the group.
unfoldable pub in_group : ℕ → Result Word DecodeError → Bool
in_group g (Ok w) = eqb (group_of w.kind) g
in_group g (Err e) = false

-- A word is passed on exactly when it is allowed, in that operator's group, and the head isn't busy.
unfoldable pub passes : Head → ℕ → ℕ → Bool
passes s g w = is_operator g && in_group g (decode_of w) && not (is_busy s)

-- 21, then 51 a word not passed, state as given; else the head's own answer.
unfoldable pub passed_on : Head → ℕ → ℕ → PassedOn
passed_on s g w =
    let a = answer_of s w in
    cond (not (in_range s)) (record { head = s; passing = Err StateRefused })
    (cond (not (passes s g w)) (record { head = s; passing = Err NotPassed })
    (record { head = a.head; passing = Ok a.outcome }))

unfoldable pub pass_error_number : PassError → ℕ
pass_error_number StateRefused = 21
pass_error_number NotPassed = 51

unfoldable pub passing_number : Result Outcome PassError → ℕ
passing_number (Ok o) = outcome_number o
passing_number (Err e) = pass_error_number e

-- The same numbers from the state and the word themselves, in the order of the checks.
unfoldable pub pass_on_number : Head → ℕ → ℕ → ℕ
pass_on_number s g w = cond (not (in_range s)) 21 (cond (not (passes s g w)) 51 (answer_number s w))
