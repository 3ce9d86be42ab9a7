-- What writing both blocks answers and leaves in their buffers.
-- Assumes nothing.
use mathlib.Core.Path.{◌≡◌, refl, sym, ◌∙◌}
use mathlib.Core.Bool.{Bool, true, false}
use mathlib.Core.List.{List}
use Prim.Native.Nat.{ℕ}
use native.Mathlib.Omega.{arith}
use borrow.Author.Tests.{eq-eqb}
use lib.Dec.{eqb}
use lib.ListN.{length}
use Rattle.std.specs.Prelude.{Result, Ok, Err}
use Rattle.head.specs.Range.{in_range}
use Rattle.head.specs.declared.state.Head.{Head}
use Rattle.blocks.specs.Written.{written_if, written_of, buffer_after}
use Rattle.blocks.specs.Ir.{ir_words}
use Rattle.blocks.specs.Ccd.{ccd_words}
use Rattle.blocks.specs.declared.refusal.Refusal.{Refusal}
use Rattle.blocks.specs.declared.refusal.Refusal.TheVariants.{Length}
use Rattle.blocks.proofs.Judged.{equal}
use Rattle.due.specs.Due.{both_written_of}

-- a refusal leaves a buffer as it was
pub untouched : (r : Result (Unit {0}) Refusal) (x : Refusal) (block buffer : List ℕ) → r ≡ Err x → buffer ≡ buffer_after r block buffer
unfolding buffer_after
untouched r x block buffer e = rw e

-- both blocks: where the CCD buffer has its length, the IR block's answer is the answer
module _ (s : Head) (ir ccd : List ℕ) (w : Result (Unit {0}) Refusal) (sized : length ccd ≡ ccd_words) (is : w ≡ written_of ir_words s ir) where
  pub first-decides : w ≡ both_written_of s ir ccd
  unfolding both_written_of
  first-decides = equal (length ccd) ccd_words w (Err Length) (written_of ir_words s ir) sized is

  -- and where it is written, the CCD block is written too
  module _ (done : w ≡ Ok tt) (r : Result (Unit {0}) Refusal) (other : r ≡ written_of ccd_words s ccd) where
    as-well : r ≡ w
    unfolding written_of written_if
    as-well = go (eqb (length ir) ir_words) refl (in_range s) refl
      where
        differ : {A : Type 0} → ◌≡◌ {A = ℕ} 0 1 → A
        differ z = absurd (omega arith)

        go : (x : Bool) → eqb (length ir) ir_words ≡ x → (y : Bool) → in_range s ≡ y → r ≡ w
        go false p y q = differ (cc (rw p at is))
        go true p false q = differ (cc (rw (p, q) at is))
        go true p true q = (rw (eq-eqb (length ccd) ccd_words sized, q) at other) ∙ sym done

    pub both-decide : r ≡ both_written_of s ir ccd
    both-decide = as-well ∙ first-decides

    pub first-kept : (after block : List ℕ) → after ≡ buffer_after w block ir → after ≡ buffer_after r block ir
    first-kept after block e = rw as-well e
