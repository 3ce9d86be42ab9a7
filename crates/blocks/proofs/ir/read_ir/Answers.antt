-- `blocks::ir::read_ir` meets its contract.
use Rattle.std.proofs.Common.{◌≡◌, ◌∙◌, List, ℕ, take, ap, ne_eqb}
use Rattle.std.specs.Prelude.{Ok, Err}
use Rattle.std.proofs.lemmas.Result.{err_from_is_err_and}
use Rattle.blocks.specs.Numbers.{ir_number, ir_place}
use Rattle.blocks.specs.Ir.{ir_readings, ir_block, ir_read_of, ir_answer_of}
use Rattle.blocks.specs.declared.refusal.Refusal.TheVariants.{Length}
use Rattle.blocks.proofs.Judged.{reading}
use Rattle.blocks.proofs.Numbered.{ir-number, ir-place}
use Rattle.blocks.proofs.ir.read_ir.Goals as goal

pub returns-then-words-ne-IR_WORDS : goal.returns-then-words-ne-IR_WORDS
unfolding ir_read_of ir_answer_of
returns-then-words-ne-IR_WORDS c =
    let is : Err Length ≡ ir_read_of c.args.words.now = simp (ne_eqb _ _ c.if-words-ne-IR_WORDS.true) in
    record { value = is; number = ap ir_number is ∙ ir-number c.args.words.now; place = ap ir_place is ∙ ir-place c.args.words.now }

pub returns-in_err-meaning : goal.returns-in_err-meaning
unfolding ir_read_of ir_answer_of
returns-in_err-meaning c =
    let p = err_from_is_err_and c.from_residual.result c.from_residual.ensures.1 in
    let is : c.from_residual.result ≡ ir_read_of c.args.words.now =
    reading (ir_block (take ir_readings c.args.words.now)) _ _ c.judge.result _ _ c.if-words-ne-IR_WORDS.false c.judge.ensures (rw c.in_err-meaning.was (rw (p.1, p.2))) in
    record { value = is; number = ap ir_number is ∙ ir-number c.args.words.now; place = ap ir_place is ∙ ir-place c.args.words.now }

pub returns : goal.returns
unfolding ir_read_of ir_answer_of
returns c =
    let block = ir_block (take ir_readings c.args.words.now) in
    let same = ap (λ (l : List ℕ). Ok (ir_block l c.in_ok-meaning.meaning)) c.copy_from_slice.ensures.after in
    let is : Ok (ir_block c.copy_from_slice.new.self c.in_ok-meaning.meaning) ≡ ir_read_of c.args.words.now =
    reading block _ _ c.judge.result _ _ c.if-words-ne-IR_WORDS.false c.judge.ensures (rw c.in_ok-meaning.was same) in
    record { value = is; number = ap ir_number is ∙ ir-number c.args.words.now; place = ap ir_place is ∙ ir-place c.args.words.now }
