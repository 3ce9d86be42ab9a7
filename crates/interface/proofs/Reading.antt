-- The ways through the exported readers: block is the block, old the array for the numbers as it was given.
-- Assumes nothing.
use mathlib.Core.Path.{◌≡◌, refl, sym, ◌∙◌, ap}
use mathlib.Core.Bool.{Bool, true, false, cond, not}
use mathlib.Core.List.{List}
use Prim.Native.Nat.{ℕ, suc, ◌+◌, ◌*◌, ◌<◌, ◌≤◌}
use native.Mathlib.Omega.{arith}
use borrow.Author.Tests.{eq-eqb, ne_eqb, eqb-true}
use lib.Dec.{eqb, lit<}
use lib.ListN.{length, take}
use Rattle.std.specs.Prelude.{Result, Ok, Err}
use Rattle.std.specs.Result.{result_map_both}
use Rattle.blocks.specs.Numbers.{refusal_number, refusal_place}
use Rattle.blocks.specs.Ir.{ir_words, ir_judged, ir_answer_of, ir_readings, ir_block, ir_read_of}
use Rattle.blocks.specs.Ccd.{ccd_words, ccd_judged, ccd_rest_judged, ccd_answer_of, ccd_readings, ccd_block, ccd_read_of}
use Rattle.blocks.specs.declared.refusal.Refusal.{Refusal}
use Rattle.blocks.specs.declared.refusal.Refusal.TheVariants.{Length}
use Rattle.blocks.specs.declared.ir.IrBlock.{IrBlock}
use Rattle.blocks.specs.declared.ccd.CcdBlock.{CcdBlock}
use Rattle.blocks.proofs.Parts.{made_of}
use Rattle.interface.specs.Blocks.{ir_numbers, ccd_numbers, refusal_answer, ir_answer, ccd_answer, ir_said_numbers, ccd_said_numbers, ir_numbers_after, ccd_numbers_after, ir_read_for, ccd_read_for, most_place}

-- above every answer: a refusal's number is less than 256
abbrev bound : ℕ
bound = 0x100 * suc most_place

-- What the definitions of a channel's reader say: M is what a block says, R what is read of it, with its first readings.
pub record Reader {M R : Type 0} (made : List ℕ → M → R) (readings : R → List ℕ) (meaning : R → M) (first : ℕ) (read_of : List ℕ → Result R Refusal)
    (answer_of : List ℕ → Result M Refusal) (count : ℕ) (read_for : List ℕ → List ℕ → Result M Refusal) (number : Result M Refusal → ℕ)
    (said : List ℕ → M → List ℕ) (after : Result M Refusal → List ℕ → List ℕ → List ℕ) : Type 0 where
  readings-made : (l : List ℕ) (m : M) → readings (made l m) ≡ l
  meaning-made : (l : List ℕ) (m : M) → meaning (made l m) ≡ m
  read-of : (block : List ℕ) → read_of block ≡ result_map_both (made (take first block)) (λ (r : Refusal). r) (answer_of block)
  first-there : (block : List ℕ) (m : M) → answer_of block ≡ Ok m → first ≤ length block
  read-for : (block old : List ℕ) → read_for block old ≡ cond (eqb (length old) count) (answer_of block) (Err Length)
  said-number : (m : M) → number (Ok m) ≡ 0
  refused-number : (r : Refusal) → number (Err r) ≡ refusal_answer r
  said-after : (m : M) (block old : List ℕ) → after (Ok m) block old ≡ said (take first block) m
  refused-after : (r : Refusal) (block old : List ℕ) → after (Err r) block old ≡ old
  bounded : (block : List ℕ) → number (answer_of block) < bound

-- the bound holds of a choice where it holds of both
either : {A : Type 0} (number : A → ℕ) (b : Bool) (x y : A) → number x < bound → number y < bound → number (cond b x y) < bound
either number true x y hx hy = hx
either number false x y hx hy = hy

-- what is read of n words has the first of them
there : {M : Type 0} {n first : ℕ} (judged : Result M Refusal) (block : List ℕ) (m : M) → first ≤ n
    → cond (not (eqb (length block) n)) (Err Length) judged ≡ Ok m → first ≤ length block
there {M} {n} {first} judged block m few e = go (eqb (length block) n) refl e
  where
    go : (b : Bool) → eqb (length block) n ≡ b → cond (not b) (Err Length) judged ≡ Ok m → first ≤ length block
    go true is e' = rw (eqb-true (length block) n is) few
    go false is e' = absurd cc

pub ir-reader :
    Reader ir_block (λ (b : IrBlock). b.readings) (λ (b : IrBlock). b.meaning) ir_readings ir_read_of ir_answer_of ir_numbers ir_read_for ir_answer ir_said_numbers ir_numbers_after
unfolding ir_read_of ir_read_for ir_answer ir_numbers_after ir_answer_of ir_judged refusal_answer
ir-reader =
    record {
      readings-made = λ l m. refl;
      meaning-made = λ l m. refl;
      read-of = λ block. refl;
      first-there = λ block m e. there {n = ir_words} {first = ir_readings} _ block m (omega arith) e;
      read-for = λ block old. refl;
      said-number = λ m. refl;
      refused-number = λ r. refl;
      said-after = λ m block old. refl;
      refused-after = λ r block old. refl;
      bounded = λ block. search (either ir_answer, lit<) depth 20;
    }

pub ccd-reader :
    Reader ccd_block (λ (b : CcdBlock). b.readings) (λ (b : CcdBlock). b.meaning) ccd_readings ccd_read_of ccd_answer_of ccd_numbers ccd_read_for ccd_answer ccd_said_numbers ccd_numbers_after
unfolding ccd_read_of ccd_read_for ccd_answer ccd_numbers_after ccd_answer_of ccd_judged ccd_rest_judged refusal_answer
ccd-reader =
    record {
      readings-made = λ l m. refl;
      meaning-made = λ l m. refl;
      read-of = λ block. refl;
      first-there = λ block m e. there {n = ccd_words} {first = ccd_readings} _ block m (omega arith) e;
      read-for = λ block old. refl;
      said-number = λ m. refl;
      refused-number = λ r. refl;
      said-after = λ m block old. refl;
      refused-after = λ r block old. refl;
      bounded = λ block. search (either ccd_answer, lit<) depth 30;
    }

refusal_of : {M R : Type 0} (made : M → R) (a : Result M Refusal) (f : Refusal) → result_map_both made (λ (r : Refusal). r) a ≡ Err f → a ≡ Err f
refusal_of made (Ok m) f e = absurd cc
refusal_of made (Err r) f e = cc

module _ {M R : Type 0} {made : List ℕ → M → R} {readings : R → List ℕ} {meaning : R → M} {first : ℕ} {read_of : List ℕ → Result R Refusal}
    {answer_of : List ℕ → Result M Refusal} {count : ℕ} {read_for : List ℕ → List ℕ → Result M Refusal} {number : Result M Refusal → ℕ}
    {said : List ℕ → M → List ℕ} {after : Result M Refusal → List ℕ → List ℕ → List ℕ}
    (c : Reader made readings meaning first read_of answer_of count read_for number said after) (block old : List ℕ) where
  module _ (short : length old ≡ count → ⊥) where
    unfit : read_for block old ≡ Err Length
    unfit = c.read-for block old ∙ rw (ne_eqb (length old) count short)

    pub unfit-answer : (r : ℕ) → r ≡ refusal_number Length → r ≡ number (read_for block old)
    unfolding refusal_answer
    unfit-answer r is = rw unfit (is ∙ sym (c.refused-number Length))

    pub unfit-left : old ≡ after (read_for block old) block old
    unfit-left = rw unfit (sym (c.refused-after Length block old))

  module _ (read : Result R Refusal) (is : read ≡ read_of block) where
    module _ (f : Refusal) (e : read ≡ Err f) where
      refused : answer_of block ≡ Err f
      refused = refusal_of (made (take first block)) (answer_of block) f (sym (c.read-of block) ∙ sym is ∙ e)

      pub place : refusal_place f ≤ most_place
      unfolding refusal_answer
      place =
          let h : refusal_number f + 0x100 * refusal_place f < bound = rw (refused, c.refused-number f) at (c.bounded block) in
          omega arith

      module _ (long : length old ≡ count) where
        refused-for : read_for block old ≡ Err f
        refused-for = c.read-for block old ∙ rw (eq-eqb (length old) count long) refused

        pub refused-answer : (r : ℕ) → r ≡ refusal_answer f → r ≡ number (read_for block old)
        refused-answer r an = rw (refused-for, c.refused-number f) an

        pub refused-left : old ≡ after (read_for block old) block old
        refused-left = rw refused-for (sym (c.refused-after f block old))

    module _ (b : R) (e : read ≡ Ok b) (long : length old ≡ count) where
      told : (m : M) × (answer_of block ≡ Ok m) × (made (take first block) m ≡ b)
      told = made_of (made (take first block)) (answer_of block) b (sym (c.read-of block) ∙ sym is ∙ e)

      said-for : read_for block old ≡ Ok told.0
      said-for = c.read-for block old ∙ rw (eq-eqb (length old) count long) told.1

      pub said-answer : 0 ≡ number (read_for block old)
      said-answer = rw said-for (sym (c.said-number told.0))

      pub readings-there : first ≤ length block
      readings-there = c.first-there block told.0 told.1

      pub said-left : (l : List ℕ) → l ≡ said (take first block) (meaning b) → l ≡ after (read_for block old) block old
      said-left l an =
          let ms : meaning b ≡ told.0 = ap meaning (sym told.2) ∙ c.meaning-made (take first block) told.0 in
          rw (said-for, c.said-after told.0 block old) (rw ms at an)
