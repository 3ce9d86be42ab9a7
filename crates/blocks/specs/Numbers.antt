-- Document 01, "Blocks": the number and the place of each answer. The place is the word's index from 0; for 11 and 21 it is 0. A
-- block that is written or read has number 0 and place 0.
-- Assumes nothing.
use Rattle.std.specs.Prelude.{ℕ, Result, Ok, Err}
use Rattle.blocks.specs.declared.refusal.Refusal.{Refusal}
use Rattle.blocks.specs.declared.refusal.Refusal.TheVariants.{Length, State, FixedBit, OutOfRange}
use Rattle.blocks.specs.declared.ir.IrBlock.{IrBlock}
use Rattle.blocks.specs.declared.ccd.CcdBlock.{CcdBlock}

abbrev pub refusal_number : Refusal → ℕ
refusal_number Length = 11
refusal_number (FixedBit p) = 12
refusal_number (OutOfRange p) = 13
refusal_number State = 21

abbrev pub refusal_place : Refusal → ℕ
refusal_place Length = 0
refusal_place (FixedBit p) = p
refusal_place (OutOfRange p) = p
refusal_place State = 0

-- Of an answer, whatever it gives.
abbrev pub answer_number : {A : Type 0} → Result A Refusal → ℕ
answer_number (Ok x) = 0
answer_number (Err r) = refusal_number r

abbrev pub answer_place : {A : Type 0} → Result A Refusal → ℕ
answer_place (Ok x) = 0
answer_place (Err r) = refusal_place r

abbrev pub written_number : Result (Unit {0}) Refusal → ℕ
written_number w = answer_number w

abbrev pub written_place : Result (Unit {0}) Refusal → ℕ
written_place w = answer_place w

abbrev pub ir_number : Result IrBlock Refusal → ℕ
ir_number r = answer_number r

abbrev pub ir_place : Result IrBlock Refusal → ℕ
ir_place r = answer_place r

abbrev pub ccd_number : Result CcdBlock Refusal → ℕ
ccd_number r = answer_number r

abbrev pub ccd_place : Result CcdBlock Refusal → ℕ
ccd_place r = answer_place r
