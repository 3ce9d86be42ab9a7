-- The ways through the code that packs a diagnosis, and through `shabgozim_why`.
-- Assumes nothing.
use mathlib.Core.Path.{◌≡◌, sym, ◌∙◌}
use mathlib.Core.Bool.{Bool, true, false, not}
use mathlib.Core.List.{List}
use Prim.Native.Nat.{ℕ, ◌+◌, ◌*◌}
use borrow.Author.Tests.{not-true, not-false}
use Rattle.head.specs.Row.{state_of}
use Rattle.head.specs.Numbers.{cause_number}
use Rattle.head.specs.declared.state.Head.{Head}
use Rattle.head.specs.declared.word.Cause.TheVariants.{State}
use Rattle.diagnosis.specs.Diagnosis.{diagnosis_of, diagnosis_number}
use Rattle.diagnosis.specs.declared.Diagnosis.{Diagnosis}
use Rattle.diagnosis.specs.declared.Diagnosis.TheVariants.{Taken, StateOutOfRange, HeadBusy, CoverMoves, UnknownIdentifier, DataOutOfRange, OutOfTurn}
use Rattle.interface.specs.State.{well_formed}
use Rattle.interface.specs.Why.{detail_bits, packed_why, why_answer}

-- `detail_bits`, case by case
module _ {d : Diagnosis} where
  pub bits-taken : d ≡ Taken → 0 ≡ detail_bits d
  unfolding detail_bits
  bits-taken e = rw e

  pub bits-state : d ≡ StateOutOfRange → 0 ≡ detail_bits d
  unfolding detail_bits
  bits-state e = rw e

  pub bits-busy : {n : ℕ} → d ≡ HeadBusy n → 0x100 * n ≡ detail_bits d
  unfolding detail_bits
  bits-busy e = rw e

  pub bits-cover : {n : ℕ} → d ≡ CoverMoves n → 0x80000000 + 0x100 * n ≡ detail_bits d
  unfolding detail_bits
  bits-cover e = rw e

  pub bits-unknown : {w : ℕ} → d ≡ UnknownIdentifier w → 0x100 * w ≡ detail_bits d
  unfolding detail_bits
  bits-unknown e = rw e

  pub bits_range : {w k : ℕ} → d ≡ DataOutOfRange w k → 0x100 * w ≡ detail_bits d
  unfolding detail_bits
  bits_range e = rw e

  pub bits-turn : {k : ℕ} → d ≡ OutOfTurn k → 0x100 * k ≡ detail_bits d
  unfolding detail_bits
  bits-turn e = rw e

pub packed-parts : (d : Diagnosis) {n b : ℕ} → n ≡ diagnosis_number d → b ≡ detail_bits d → n + b ≡ packed_why d
unfolding packed_why
packed-parts d number bits = rw (number, bits)

-- i is what `well_formed` answered
module _ (l : List ℕ) (w : ℕ) (i : Bool) (is : i ≡ well_formed l) {r : ℕ} where
  pub why-ill : not i ≡ true → r ≡ cause_number State → r ≡ why_answer l w
  unfolding why_answer
  why-ill bad own = rw (sym is ∙ not-true i bad) own

  pub why-answer : not i ≡ false → {h : Head} → h ≡ state_of l → {d : Diagnosis} → d ≡ diagnosis_of h w → r ≡ packed_why d → r ≡ why_answer l w
  unfolding why_answer
  why-answer good loaded found own = rw (sym is ∙ not-false i good, ← loaded, ← found) own
