-- `run::rehearse::rehearse` meets its contract: each way through the code is a law of `Rehearsal`.
use mathlib.Core.List.{[]}
use native.Mathlib.Omega.{arith}
use Rattle.std.proofs.lemmas.Result.{err_from_is_err_and}
use Rattle.schedule.proofs.Numbered.{Promised}
use Rattle.run.proofs.Rehearsed.{way-words, way-ticks, way-rising, way-acts, way-done, way-refused}
use borrow.Author.Rules.{rules}
use Rattle.run.proofs.rehearse.rehearse.Goals as goal

pub returns-in_err-translation : goal.returns-in_err-translation
returns-in_err-translation c =
    let a = c.args in
    let r = c.translate in
    let e = r.ensures in
    let t : Promised a.head a.plan.now a.words.now a.ticks.now r.result r.new.words r.new.ticks =
    (e.value, (e.words_after, (e.ticks_after, (e.result_value, e.result_value_2)))) in
    let f = err_from_is_err_and c.from_residual.result c.from_residual.ensures.1 in
    let p = way-refused a.head a.plan.now a.words.now a.ticks.now a.rows.now a.times.now t (rw f.2 at f.1) c.in_err-translation.was in
    record {
      value = p.0;
      words_after = p.1.0;
      ticks_after = p.1.1.0;
      rows_after = p.1.1.1.0;
      times_after = p.1.1.1.1.0;
      fulfilled = p.1.1.1.1.1.0;
      result_value = p.1.1.1.1.1.1.0;
      result_value_2 = p.1.1.1.1.1.1.1;
    }

pub run_words-ran-requires : goal.run_words-ran-requires
run_words-ran-requires c =
    let a = c.args in
    let r = c.translate in
    let e = r.ensures in
    let t : Promised a.head a.plan.now a.words.now a.ticks.now r.result r.new.words r.new.ticks =
    (e.value, (e.words_after, (e.ticks_after, (e.result_value, e.result_value_2)))) in
    record {
      count_in_bounds_1 = way-words a.head a.plan.now a.words.now a.ticks.now [] [] t c.in_ok-translation.was;
      count_in_bounds_2 = way-ticks a.head a.plan.now a.words.now a.ticks.now [] [] t c.in_ok-translation.was;
      rising = way-rising a.head a.plan.now a.words.now a.ticks.now [] [] t c.in_ok-translation.was;
      words_in_bounds = omega (arith, way-acts a.head a.plan.now a.words.now a.ticks.now [] [] t c.in_ok-translation.was);
    }

pub returns : goal.returns
returns c =
    let a = c.args in
    let r = c.translate in
    let e = r.ensures in
    let t : Promised a.head a.plan.now a.words.now a.ticks.now r.result r.new.words r.new.ticks =
    (e.value, (e.words_after, (e.ticks_after, (e.result_value, e.result_value_2)))) in
    let run = c.run_words-ran.ensures in
    let p = way-done a.head a.plan.now a.words.now a.ticks.now a.rows.now a.times.now t c.in_ok-translation.was (search rules) (search rules) (run.head_value, (run.acts_value, (run.rows_after, run.times_after))) in
    record {
      value = p.0;
      words_after = p.1.0;
      ticks_after = p.1.1.0;
      rows_after = p.1.1.1.0;
      times_after = p.1.1.1.1.0;
      fulfilled = p.1.1.1.1.1.0;
      result_value = p.1.1.1.1.1.1.0;
      result_value_2 = p.1.1.1.1.1.1.1;
    }
