-- What the number of an outcome says of it.
-- Assumes nothing.
use mathlib.Core.Path.{◌≡◌, refl}
use mathlib.Core.Bool.{Bool, true, false, ◌&&◌}
use mathlib.Core.List.{[], ◌∷◌}
use Prim.Native.Nat.{ℕ, ◌+◌}
use native.Mathlib.Omega.{arith}
use borrow.Author.Tests.{ne_eqb, lt-leb}
use lib.Dec.{leb}
use Rattle.head.specs.Numbers.{act_number, cause_number, outcome_number, is_cause}
use Rattle.head.specs.declared.word.Act.{Act}
use Rattle.head.specs.declared.word.Act.TheVariants as act
use Rattle.head.specs.declared.word.Cause.{Cause}
use Rattle.head.specs.declared.word.Cause.TheVariants.{State, Busy, CoverMoving, UnknownWord, Range, Turn}
use Rattle.head.specs.declared.word.Outcome.{Outcome}
use Rattle.head.specs.declared.word.Outcome.TheVariants.{Taken, Ignored}
use Rattle.inspection.specs.Notes.{is_exposure, cause_shown}

pub exposure_taken : (o : Outcome) → o ≡ Taken act.Exposure → true ≡ is_exposure (outcome_number o)
unfolding outcome_number act_number
exposure_taken o e = rw e

pub exposure_not : (o : Outcome) → (o ≡ Taken act.Exposure → ⊥) → false ≡ is_exposure (outcome_number o)
unfolding outcome_number act_number cause_number
exposure_not (Taken act.None) e = refl
exposure_not (Taken act.Exposure) e = absurd (e refl)
exposure_not (Taken act.Request) e = refl
exposure_not (Taken (act.Cover b)) e = rw (ne_eqb (0x1000 + b) 1 (λ z. omega arith))
exposure_not (Ignored State) e = refl
exposure_not (Ignored Busy) e = refl
exposure_not (Ignored CoverMoving) e = refl
exposure_not (Ignored UnknownWord) e = refl
exposure_not (Ignored Range) e = refl
exposure_not (Ignored Turn) e = refl

pub ignored_cause : (o : Outcome) (c : Cause) → o ≡ Ignored c → true ≡ is_cause (outcome_number o)
unfolding outcome_number cause_number is_cause
ignored_cause o c e = rw e (go c)
  where
    go : (c : Cause) → true ≡ is_cause (cause_number c)
    go State = refl
    go Busy = refl
    go CoverMoving = refl
    go UnknownWord = refl
    go Range = refl
    go Turn = refl

pub taken_none : (o : Outcome) (a : Act) → o ≡ Taken a → false ≡ is_cause (outcome_number o)
unfolding outcome_number act_number is_cause
taken_none o a e = rw e (go a)
  where
    none : (x : Bool) → false ≡ (x && false)
    none true = refl
    none false = refl

    go : (a : Act) → false ≡ is_cause (act_number a)
    go act.None = refl
    go act.Exposure = refl
    go act.Request = refl
    go (act.Cover b) = rw (lt-leb (0x1000 + b) 25 (omega arith)) (none (leb 21 (0x1000 + b)))

pub taken_shown : (o : Outcome) (a : Act) (busy cover : ℕ) → o ≡ Taken a → 0 ∷ 0 ∷ [] ≡ cause_shown (outcome_number o) busy cover
unfolding outcome_number act_number cause_shown
taken_shown o a busy cover e = rw e (go a)
  where
    go : (a : Act) → 0 ∷ 0 ∷ [] ≡ cause_shown (act_number a) busy cover
    go act.None = refl
    go act.Exposure = refl
    go act.Request = refl
    go (act.Cover b) =
        let n = 0x1000 + b in
        rw (ne_eqb n 22 (λ z. omega arith), ne_eqb n 23 (λ z. omega arith), ne_eqb n 24 (λ z. omega arith), ne_eqb n 25 (λ z. omega arith), ne_eqb n 21 (λ z. omega arith))
