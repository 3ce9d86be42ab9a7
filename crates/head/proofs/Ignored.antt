-- An ignored word changes nothing but flags and a begun set; a taken word changes no flag.
-- Assumes nothing.
use mathlib.Core.Path.{◌≡◌, refl}
use Prim.Native.Nat.{ℕ}
use native.Mathlib.Omega.{arith}
use Rattle.head.specs.Apply.{after}
use Rattle.head.specs.Word.{answer_of}
use Rattle.head.specs.declared.state.Head.{Head}
use Rattle.head.specs.declared.word.Act.{Act}
use Rattle.head.specs.declared.word.Cause.{Cause}
use Rattle.head.specs.declared.word.Outcome.TheVariants.{Taken, Ignored}
use Rattle.head.specs.declared.word.Answered.{Answered}
use Rattle.head.proofs.Answers.{Kept, Answer, ignoring, taking, answer}

-- t is s but for flags and a begun set that may have been dropped
pub record Marked (s t : Head) : Type 0 where
  pub settings : t.settings ≡ s.settings
  pub latches : t.latches ≡ s.latches
  pub work : t.work ≡ s.work
  pub motion : t.motion ≡ s.motion
  pub begun : Kept s.begun t.begun

module _ (s : Head) (w : ℕ) where
  marks : (c : Cause) (a : Answered) → Answer s w a → a.outcome ≡ Ignored c → Marked s a.head
  marks c a (ignoring f g d p q) e = record { settings = refl; latches = refl; work = refl; motion = refl; begun = q }
  marks c a (taking k b p) e = let z : ◌≡◌ {A = ℕ} 0 1 = cc in absurd (omega arith)

  pub ignored-marks : (c : Cause) → (answer_of s w).outcome ≡ Ignored c → Marked s (answer_of s w).head
  ignored-marks c e = marks c (answer_of s w) (answer s w) e

  flags : (x : Act) (a : Answered) → Answer s w a → a.outcome ≡ Taken x → a.head.flags ≡ s.flags
  unfolding after
  flags x a (ignoring f g d p q) e = let z : ◌≡◌ {A = ℕ} 0 1 = cc in absurd (omega arith)
  flags x a (taking k b p) e = refl

  pub taken-flags : (x : Act) → (answer_of s w).outcome ≡ Taken x → (answer_of s w).head.flags ≡ s.flags
  taken-flags x e = flags x (answer_of s w) (answer s w) e
