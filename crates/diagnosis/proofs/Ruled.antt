-- A diagnosis names the rule that the head applied, and has its number.
-- Assumes nothing.
use mathlib.Core.Path.{◌≡◌, refl}
use mathlib.Core.Bool.{Bool, true, false, ◌&&◌}
use Prim.Native.Nat.{ℕ, ◌+◌, ◌<◌}
use native.Mathlib.Omega.{arith}
use borrow.Author.Tests.{lt-leb}
use lib.Dec.{leb}
use Rattle.head.specs.Word.{answer_of}
use Rattle.head.specs.Numbers.{act_number, cause_number, is_cause, outcome_number, answer_number}
use Rattle.head.specs.declared.state.Head.{Head}
use Rattle.head.specs.declared.word.Act.TheVariants as act
use Rattle.head.specs.declared.word.Cause.TheVariants.{State, Busy, CoverMoving, UnknownWord, Range, Turn}
use Rattle.head.specs.declared.word.Outcome.{Outcome}
use Rattle.head.specs.declared.word.Outcome.TheVariants as outcome
use Rattle.head.proofs.Numbered.{word_number}
use Rattle.diagnosis.specs.Diagnosis.{by_cause, by_outcome, diagnosis_of, diagnosis_number, stopped_number}
use Rattle.diagnosis.specs.declared.Diagnosis.{Diagnosis}
use Rattle.diagnosis.specs.Truth.{named, applied}

module _ (s : Head) (w : ℕ) where
  -- taken exactly where the head takes it, else the cause in the head's answer
  pub names-rule : named (diagnosis_of s w) ≡ applied (answer_of s w).outcome
  unfolding diagnosis_of by_outcome by_cause named applied
  names-rule = go (answer_of s w).outcome
    where
      go : (o : Outcome) → named (by_outcome s w o) ≡ applied o
      go (outcome.Taken a) = refl
      go (outcome.Ignored State) = refl
      go (outcome.Ignored Busy) = refl
      go (outcome.Ignored CoverMoving) = refl
      go (outcome.Ignored UnknownWord) = refl
      go (outcome.Ignored Range) = refl
      go (outcome.Ignored Turn) = refl

  outcome-number : (o : Outcome) → diagnosis_number (by_outcome s w o) ≡ stopped_number (outcome_number o)
  unfolding by_outcome by_cause diagnosis_number stopped_number is_cause outcome_number act_number cause_number
  outcome-number (outcome.Taken act.None) = refl
  outcome-number (outcome.Taken act.Exposure) = refl
  outcome-number (outcome.Taken act.Request) = refl
  outcome-number (outcome.Taken (act.Cover b)) = rw (lt-leb (0x1000 + b) 25 (omega arith), and-false (leb 21 (0x1000 + b)))
    where
      and-false : (x : Bool) → (x && false) ≡ false
      and-false true = refl
      and-false false = refl
  outcome-number (outcome.Ignored State) = refl
  outcome-number (outcome.Ignored Busy) = refl
  outcome-number (outcome.Ignored CoverMoving) = refl
  outcome-number (outcome.Ignored UnknownWord) = refl
  outcome-number (outcome.Ignored Range) = refl
  outcome-number (outcome.Ignored Turn) = refl

  pub diagnosis-number : w < 65536 → diagnosis_number (diagnosis_of s w) ≡ stopped_number (answer_number s w)
  unfolding diagnosis_of
  diagnosis-number h = rw (← word_number s w h) (outcome-number (answer_of s w).outcome)

  -- and so for what the code finds
  pub found_number : w < 65536 → (d : Diagnosis) → d ≡ diagnosis_of s w → diagnosis_number d ≡ stopped_number (answer_number s w)
  found_number h d is = rw is (diagnosis-number h)
