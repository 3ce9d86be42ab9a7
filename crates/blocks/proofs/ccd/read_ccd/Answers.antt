-- `blocks::ccd::read_ccd` meets its contract.
use Rattle.std.proofs.Common.{◌≡◌, ◌∙◌, List, ℕ, take, ap, ne_eqb}
use Rattle.std.specs.Prelude.{Ok, Err}
use Rattle.std.proofs.lemmas.Result.{err_from_is_err_and}
use Rattle.blocks.specs.Numbers.{ccd_number, ccd_place}
use Rattle.blocks.specs.Ccd.{ccd_readings, ccd_block, ccd_read_of, ccd_answer_of}
use Rattle.blocks.specs.declared.refusal.Refusal.TheVariants.{Length}
use Rattle.blocks.proofs.Judged.{reading}
use Rattle.blocks.proofs.Numbered.{ccd-number, ccd-place}
use Rattle.blocks.proofs.ccd.read_ccd.Goals as goal

pub returns-then-words-ne-CCD_WORDS : goal.returns-then-words-ne-CCD_WORDS
unfolding ccd_read_of ccd_answer_of
returns-then-words-ne-CCD_WORDS c =
    let is : Err Length ≡ ccd_read_of c.args.words.now = simp (ne_eqb _ _ c.if-words-ne-CCD_WORDS.true) in
    record { value = is; number = ap ccd_number is ∙ ccd-number c.args.words.now; place = ap ccd_place is ∙ ccd-place c.args.words.now }

pub returns-in_err-meaning : goal.returns-in_err-meaning
unfolding ccd_read_of ccd_answer_of
returns-in_err-meaning c =
    let p = err_from_is_err_and c.from_residual.result c.from_residual.ensures.1 in
    let is : c.from_residual.result ≡ ccd_read_of c.args.words.now =
    reading (ccd_block (take ccd_readings c.args.words.now)) _ _ c.judge.result _ _ c.if-words-ne-CCD_WORDS.false c.judge.ensures (rw c.in_err-meaning.was (rw (p.1, p.2))) in
    record { value = is; number = ap ccd_number is ∙ ccd-number c.args.words.now; place = ap ccd_place is ∙ ccd-place c.args.words.now }

pub returns : goal.returns
unfolding ccd_read_of ccd_answer_of
returns c =
    let block = ccd_block (take ccd_readings c.args.words.now) in
    let same = ap (λ (l : List ℕ). Ok (ccd_block l c.in_ok-meaning.meaning)) c.copy_from_slice.ensures.after in
    let is : Ok (ccd_block c.copy_from_slice.new.self c.in_ok-meaning.meaning) ≡ ccd_read_of c.args.words.now =
    reading block _ _ c.judge.result _ _ c.if-words-ne-CCD_WORDS.false c.judge.ensures (rw c.in_ok-meaning.was same) in
    record { value = is; number = ap ccd_number is ∙ ccd-number c.args.words.now; place = ap ccd_place is ∙ ccd-place c.args.words.now }
