-- Document 01's number and place of an answer: what decides the answer decides them.
-- Assumes nothing.
use Rattle.std.proofs.Common.{◌≡◌, ℕ, Bool, true, false, cond, List, refl, ◌∙◌}
use Rattle.std.specs.Prelude.{Result, Ok, Err}
use Rattle.std.specs.Result.{result_map_both}
use Rattle.head.specs.declared.state.Head.{Head}
use Rattle.blocks.specs.Numbers.{refusal_number, refusal_place, answer_number, answer_place, written_number, written_place, ir_number, ir_place, ccd_number, ccd_place}
use Rattle.blocks.specs.Written.{written_if, written_of, write_number}
use Rattle.blocks.specs.Ir.{ir_judged, ir_answer_of, ir_read_of, ir_told}
use Rattle.blocks.specs.Ccd.{ccd_judged, ccd_rest_judged, ccd_answer_of, ccd_read_of, ccd_told}
use Rattle.blocks.specs.declared.refusal.Refusal.{Refusal}
use Rattle.blocks.specs.declared.ir.IrMeaning.{IrMeaning}
use Rattle.blocks.specs.declared.ccd.CcdMeaning.{CcdMeaning}

-- a function of a choice
pub chosen : {A B : Type 0} (f : A → B) (b : Bool) (x y : A) → f (cond b x y) ≡ cond b (f x) (f y)
chosen f true x y = refl
chosen f false x y = refl

pub same : {A : Type 0} (b : Bool) (x : A) → cond b x x ≡ x
same true x = refl
same false x = refl

-- what goes with an answer changes neither
module _ {A B : Type 0} (f : A → B) where
  number-kept : (r : Result A Refusal) → answer_number (result_map_both f (λ (e : Refusal). e) r) ≡ answer_number r
  number-kept (Ok x) = refl
  number-kept (Err e) = refl

  place-kept : (r : Result A Refusal) → answer_place (result_map_both f (λ (e : Refusal). e) r) ≡ answer_place r
  place-kept (Ok x) = refl
  place-kept (Err e) = refl

-- a writer's answer
module _ (n : ℕ) (s : Head) (buffer : List ℕ) where
  pub written-number : written_number (written_of n s buffer) ≡ write_number n s buffer
  unfolding written_of written_if write_number
  written-number = simp (chosen written_number)

  pub written-place : written_place (written_of n s buffer) ≡ 0
  unfolding written_of written_if
  written-place = simp (chosen written_place, same)

-- what a reader gives
module _ (ws : List ℕ) where
  pub ir-number : ir_number (ir_read_of ws) ≡ ir_told refusal_number ws
  unfolding ir_read_of ir_answer_of ir_judged ir_told
  ir-number = number-kept _ (ir_answer_of ws) ∙ simp (chosen (answer_number {A = IrMeaning}))

  pub ir-place : ir_place (ir_read_of ws) ≡ ir_told refusal_place ws
  unfolding ir_read_of ir_answer_of ir_judged ir_told
  ir-place = place-kept _ (ir_answer_of ws) ∙ simp (chosen (answer_place {A = IrMeaning}))

  pub ccd-number : ccd_number (ccd_read_of ws) ≡ ccd_told refusal_number ws
  unfolding ccd_read_of ccd_answer_of ccd_judged ccd_rest_judged ccd_told
  ccd-number = number-kept _ (ccd_answer_of ws) ∙ simp (chosen (answer_number {A = CcdMeaning}))

  pub ccd-place : ccd_place (ccd_read_of ws) ≡ ccd_told refusal_place ws
  unfolding ccd_read_of ccd_answer_of ccd_judged ccd_rest_judged ccd_told
  ccd-place = place-kept _ (ccd_answer_of ws) ∙ simp (chosen (answer_place {A = CcdMeaning}))
