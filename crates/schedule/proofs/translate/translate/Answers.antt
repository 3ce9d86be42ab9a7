-- `schedule::translate::translate` meets its contract.
use mathlib.Core.Bool.{not}
use mathlib.Core.Path.{refl, ap, ◌∙◌}
use native.Mathlib.Omega.{arith}
use Rattle.std.specs.Prelude.{Err}
use Rattle.std.proofs.lemmas.Result.{err_from_is_err_and}
use Rattle.schedule.proofs.Translating.{way-unfit, way-near, way-header, way-refused, way-few, way-short-words, way-short-ticks, way-done}
use Rattle.schedule.proofs.Numbered.{promised}
use Rattle.schedule.proofs.translate.translate.Goals as goal

pub returns-then-not-is_fit : goal.returns-then-not-is_fit
returns-then-not-is_fit c =
    let a = c.args in
    let p = promised a.head a.plan.now a.words.now a.ticks.now (way-unfit a.head a.plan.now a.words.now a.ticks.now c.is_fit.ensures (ap not c.if-not-is_fit.true)) in
    record { value = p.0; words_after = p.1.0; ticks_after = p.1.1.0; result_value = p.1.1.1.0; result_value_2 = p.1.1.1.1 }

pub returns-in-Err : goal.returns-in-Err
returns-in-Err c =
    let a = c.args in
    let p = promised a.head a.plan.now a.words.now a.ticks.now (way-header a.head a.plan.now a.words.now a.ticks.now c.is_fit.ensures (ap not c.if-not-is_fit.false) c.in-Err.ensures.value) in
    record { value = p.0; words_after = p.1.0; ticks_after = p.1.1.0; result_value = p.1.1.1.0; result_value_2 = p.1.1.1.1 }

pub lay-requires : goal.lay-requires
lay-requires c =
    let a = c.args in
    let near = way-near a.head a.plan.now a.words.now a.ticks.now c.is_fit.ensures (ap not c.if-not-is_fit.false) in
    record { fact_1 = omega arith; fact_2 = omega arith; fact_3 = rw c.of.ensures near }

pub returns-in_err-laid : goal.returns-in_err-laid
returns-in_err-laid c =
    let a = c.args in
    let laid = rw c.of.ensures at c.in_err-laid.ensures in
    let r = err_from_is_err_and c.from_residual.result c.from_residual.ensures.1 in
    let p = promised a.head a.plan.now a.words.now a.ticks.now (way-refused a.head a.plan.now a.words.now a.ticks.now c.is_fit.ensures (ap not c.if-not-is_fit.false) c.in_default.ensures.value (r.1 ∙ ap Err r.2) laid.value) in
    record { value = p.0; words_after = p.1.0; ticks_after = p.1.1.0; result_value = p.1.1.1.0; result_value_2 = p.1.1.1.1 }

pub returns-then-words-count : goal.returns-then-words-count
returns-then-words-count c =
    let a = c.args in
    let laid = rw c.of.ensures at c.in_ok-laid.ensures in
    let p = promised a.head a.plan.now a.words.now a.ticks.now (way-short-words a.head a.plan.now a.words.now a.ticks.now c.is_fit.ensures (ap not c.if-not-is_fit.false) c.in_default.ensures.value laid.value c.if-words-count.true) in
    record { value = p.0; words_after = p.1.0; ticks_after = p.1.1.0; result_value = p.1.1.1.0; result_value_2 = p.1.1.1.1 }

pub returns-then-ticks-count : goal.returns-then-ticks-count
returns-then-ticks-count c =
    let a = c.args in
    let laid = rw c.of.ensures at c.in_ok-laid.ensures in
    let p = promised a.head a.plan.now a.words.now a.ticks.now (way-short-ticks a.head a.plan.now a.words.now a.ticks.now c.is_fit.ensures (ap not c.if-not-is_fit.false) c.in_default.ensures.value laid.value c.if-words-count.false c.if-ticks-count.true) in
    record { value = p.0; words_after = p.1.0; ticks_after = p.1.1.0; result_value = p.1.1.1.0; result_value_2 = p.1.1.1.1 }

pub copy_out-requires : goal.copy_out-requires
copy_out-requires c =
    let a = c.args in
    let laid = rw c.of.ensures at c.in_ok-laid.ensures in
    let few = way-few a.head a.plan.now a.words.now a.ticks.now c.is_fit.ensures (ap not c.if-not-is_fit.false) c.in_default.ensures.value laid.value in
    record { fact_1 = omega arith; fact_2 = omega arith; fact_3 = omega arith; fact_4 = omega arith }

pub returns : goal.returns
returns c =
    let a = c.args in
    let laid = rw c.of.ensures at c.in_ok-laid.ensures in
    let p = promised a.head a.plan.now a.words.now a.ticks.now (way-done a.head a.plan.now a.words.now a.ticks.now c.is_fit.ensures (ap not c.if-not-is_fit.false) c.in_default.ensures.value laid.value c.if-words-count.false c.if-ticks-count.false _ _ _ _ refl refl laid.when_done laid.when_done_2 c.copy_out.ensures.words_after c.copy_out.ensures.ticks_after) in
    record { value = p.0; words_after = p.1.0; ticks_after = p.1.1.0; result_value = p.1.1.1.0; result_value_2 = p.1.1.1.1 }
