-- `run::compare::compare` meets its contract: each way through the code is a law of `Comparison`.
use native.Mathlib.Omega.{arith}
use Rattle.std.proofs.lemmas.Result.{err_from_is_err_and}
use Rattle.run.proofs.Rehearsed.{Answers}
use Rattle.run.proofs.Comparison.{way-acts, way-done, way-refused}
use borrow.Author.Rules.{rules}
use Rattle.run.proofs.compare.compare.Goals as goal

pub returns-in_err-rehearsed : goal.returns-in_err-rehearsed
returns-in_err-rehearsed c =
    let a = c.args in
    let r = c.rehearse in
    let e = r.ensures in
    let ran : Answers a.head a.plan.now a.words.now a.ticks.now a.rows.now a.times.now r.result r.new.words r.new.ticks r.new.rows r.new.times =
    (e.value, (e.words_after, (e.ticks_after, (e.rows_after, (e.times_after, (e.fulfilled, (e.result_value, e.result_value_2))))))) in
    let f = err_from_is_err_and c.from_residual.result c.from_residual.ensures.1 in
    let p = way-refused a.head a.plan.now a.words.now a.ticks.now a.rows.now a.times.now (search rules) (search rules) ran (rw f.2 at f.1) c.in_err-rehearsed.was in
    record {
      value = p.0;
      words_after = p.1.0;
      ticks_after = p.1.1.0;
      rows_after = p.1.1.1.0;
      times_after = p.1.1.1.1.0;
      result_value = p.1.1.1.1.1.0;
      result_value_2 = p.1.1.1.1.1.1;
    }

pub agrees-requires : goal.agrees-requires
agrees-requires c =
    let a = c.args in
    let r = c.rehearse in
    let e = r.ensures in
    let ran : Answers a.head a.plan.now a.words.now a.ticks.now a.rows.now a.times.now r.result r.new.words r.new.ticks r.new.rows r.new.times =
    (e.value, (e.words_after, (e.ticks_after, (e.rows_after, (e.times_after, (e.fulfilled, (e.result_value, e.result_value_2))))))) in
    let most = way-acts a.head a.plan.now a.words.now a.ticks.now a.rows.now a.times.now (search rules) (search rules) ran c.in_ok-rehearsed.was in
    record { fact_1 = most; fact_2 = omega arith }

pub returns : goal.returns
returns c =
    let a = c.args in
    let r = c.rehearse in
    let e = r.ensures in
    let ran : Answers a.head a.plan.now a.words.now a.ticks.now a.rows.now a.times.now r.result r.new.words r.new.ticks r.new.rows r.new.times =
    (e.value, (e.words_after, (e.ticks_after, (e.rows_after, (e.times_after, (e.fulfilled, (e.result_value, e.result_value_2))))))) in
    let p = way-done a.head a.plan.now a.words.now a.ticks.now a.rows.now a.times.now (search rules) (search rules) ran c.in_ok-rehearsed.was c.agrees.ensures in
    record {
      value = p.0;
      words_after = p.1.0;
      ticks_after = p.1.1.0;
      rows_after = p.1.1.1.0;
      times_after = p.1.1.1.1.0;
      result_value = p.1.1.1.1.1.0;
      result_value_2 = p.1.1.1.1.1.1;
    }
