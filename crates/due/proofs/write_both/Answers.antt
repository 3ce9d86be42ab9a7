-- `due::write_both` meets its contract.
use Rattle.std.proofs.Common.{◌≡◌, ◌∙◌, ap, refl, rules}
use Rattle.std.specs.Prelude.{Err}
use Rattle.std.proofs.lemmas.Result.{err_from_is_err_and}
use Rattle.blocks.specs.Numbers.{written_number, written_place}
use Rattle.blocks.specs.Written.{buffer_after}
use Rattle.blocks.specs.Ir.{ir_block_of}
use Rattle.blocks.specs.declared.refusal.Refusal.TheVariants.{Length}
use Rattle.blocks.proofs.Judged.{unequal}
use Rattle.due.specs.Due.{both_written_of}
use Rattle.due.proofs.Numbered.{both-number, both-place}
use Rattle.due.proofs.Both.{untouched, first-decides, both-decide, first-kept}
use Rattle.due.proofs.write_both.Goals as goal

pub returns-then-ccd-ne-CCD_WORDS : goal.returns-then-ccd-ne-CCD_WORDS
unfolding both_written_of
returns-then-ccd-ne-CCD_WORDS c =
    let is : Err Length ≡ both_written_of c.args.head c.args.ir.now c.args.ccd.now =
    search (rules, unequal) in
    record {
      value = is;
      number = ap written_number is ∙ both-number c.args.head c.args.ir.now c.args.ccd.now;
      place = refl;
      ir_after = untouched _ Length _ c.args.ir.now refl;
      ccd_after = untouched _ Length _ c.args.ccd.now refl;
    }

pub returns-in_err-write_ir : goal.returns-in_err-write_ir
returns-in_err-write_ir c =
    let e = c.in_err-write_ir.was in
    let p = err_from_is_err_and c.from_residual.result c.from_residual.ensures.1 in
    let same : c.from_residual.result ≡ c.write_ir.result = rw (p.1, p.2, e) in
    let is : c.from_residual.result ≡ both_written_of c.args.head c.args.ir.now c.args.ccd.now =
    same ∙ first-decides c.args.head c.args.ir.now c.args.ccd.now c.write_ir.result c.if-ccd-ne-CCD_WORDS.false c.write_ir.ensures.value in
    record {
      value = is;
      number = ap written_number is ∙ both-number c.args.head c.args.ir.now c.args.ccd.now;
      place = ap written_place is ∙ both-place c.args.head c.args.ir.now c.args.ccd.now;
      ir_after = rw same c.write_ir.ensures.buffer_after;
      ccd_after = untouched c.from_residual.result p.0 _ c.args.ccd.now p.1;
    }

pub returns : goal.returns
returns c =
    let is : c.write_ccd.result ≡ both_written_of c.args.head c.args.ir.now c.args.ccd.now =
    search (rules, both-decide) in
    let ir : c.write_ir.new.buffer ≡ buffer_after c.write_ccd.result (ir_block_of c.args.head c.args.flags c.args.acquired c.args.given.irreadings c.args.given.irbits) c.args.ir.now =
    search (rules, first-kept) in
    record {
      value = is;
      number = ap written_number is ∙ both-number c.args.head c.args.ir.now c.args.ccd.now;
      place = ap written_place is ∙ both-place c.args.head c.args.ir.now c.args.ccd.now;
      ir_after = ir;
      ccd_after = c.write_ccd.ensures.buffer_after;
    }
