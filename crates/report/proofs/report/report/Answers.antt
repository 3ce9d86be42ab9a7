-- `report::report::report` meets its contract: each way through the code is a law of `Simulated`.
use mathlib.Core.Path.{◌≡◌, refl, sym}
use mathlib.Core.List.{List}
use Prim.Native.Nat.{ℕ}
use lib.ListN.{replicate}
use Rattle.head.specs.Busy.{rest_ticks}
use Rattle.head.specs.Tick.{ticks_of}
use Rattle.head.specs.declared.state.Head.{Head}
use Rattle.plan.specs.Stored.{plan_of}
use Rattle.schedule.specs.Translate.{most_words, schedule_of, translate_of, filled, word_list, tick_list}
use Rattle.run.specs.Rehearse.{run_record}
use Rattle.run.specs.Compare.{compared_of}
use Rattle.std.specs.Prelude.{Result}
use Rattle.std.proofs.lemmas.Result.{err_from_is_err_and}
use Rattle.schedule.specs.declared.TranslateError.{TranslateError}
use Rattle.run.specs.declared.compare.Comparison.{Comparison}
use Rattle.report.proofs.Simulated.{Simulated, words-room, ticks-room, words_long, ticks-long, given-asks, accepted, rows_long, way-done, way-refused}
use Rattle.report.proofs.report.report.Goals as goal

-- after the comparison
simulated : {given : Head} {bs : List ℕ} {rest : ℕ} {s : Head} {c : Result Comparison TranslateError} {W' T' R' : List ℕ}
    → rest ≡ rest_ticks given
    → s ≡ ticks_of rest given
    → c ≡ compared_of s bs
    → W' ≡ filled (translate_of s bs most_words most_words) (word_list (schedule_of s (plan_of bs))) (replicate most_words 0)
    → T' ≡ filled (translate_of s bs most_words most_words) (tick_list (schedule_of s (plan_of bs))) (replicate most_words 0)
    → R' ≡ filled (translate_of s bs most_words most_words) (run_record s (schedule_of s (plan_of bs))) (replicate 1365 0)
    → Simulated given bs (replicate most_words 0) (replicate most_words 0) (replicate 1365 0) rest s c W' T' R'
simulated ticks start is words_is ticks_is rows_is =
    record {
      ticks = ticks;
      start = start;
      long_w = refl;
      long_t = refl;
      long_r = refl;
      is = is;
      words_is = words_is;
      ticks_is = ticks_is;
      rows_is = rows_is;
    }

pub slice_bounds-words-end : goal.slice_bounds-words-end
slice_bounds-words-end c =
    let e = c.compare.ensures in
    let s = simulated c.rest_ticks-rest.ensures c.pass-start.ensures e.value e.words_after e.ticks_after e.rows_after in
    words-room s c.in_ok-compared.was

pub slice_bounds-taken_words-end : goal.slice_bounds-taken_words-end
slice_bounds-taken_words-end c =
    let e = c.compare.ensures in
    let s = simulated c.rest_ticks-rest.ensures c.pass-start.ensures e.value e.words_after e.ticks_after e.rows_after in
    words_long s c.in_ok-compared.was

pub slice_bounds-ticks-end : goal.slice_bounds-ticks-end
slice_bounds-ticks-end c =
    let e = c.compare.ensures in
    let s = simulated c.rest_ticks-rest.ensures c.pass-start.ensures e.value e.words_after e.ticks_after e.rows_after in
    ticks-room s c.in_ok-compared.was

pub slice_bounds-taken_words-end-2 : goal.slice_bounds-taken_words-end-2
slice_bounds-taken_words-end-2 c =
    let e = c.compare.ensures in
    let s = simulated c.rest_ticks-rest.ensures c.pass-start.ensures e.value e.words_after e.ticks_after e.rows_after in
    ticks-long s c.in_ok-compared.was

pub taken_words-taken-requires : goal.taken_words-taken-requires
taken_words-taken-requires c =
    let e = c.compare.ensures in
    let s = simulated c.rest_ticks-rest.ensures c.pass-start.ensures e.value e.words_after e.ticks_after e.rows_after in
    let a = given-asks s c.in_ok-compared.was in
    record { fact_1 = a.0; fact_2 = a.1.0; fact_3 = a.1.1 }

pub slice_bounds-ticks-end-2 : goal.slice_bounds-ticks-end-2
slice_bounds-ticks-end-2 c =
    let e = c.compare.ensures in
    let s = simulated c.rest_ticks-rest.ensures c.pass-start.ensures e.value e.words_after e.ticks_after e.rows_after in
    ticks-room s c.in_ok-compared.was

pub slice_bounds-write_report-end : goal.slice_bounds-write_report-end
slice_bounds-write_report-end c =
    let e = c.compare.ensures in
    let s = simulated c.rest_ticks-rest.ensures c.pass-start.ensures e.value e.words_after e.ticks_after e.rows_after in
    ticks-long s c.in_ok-compared.was

pub slice_bounds-write_report-end-2 : goal.slice_bounds-write_report-end-2
slice_bounds-write_report-end-2 c =
    let e = c.compare.ensures in
    let s = simulated c.rest_ticks-rest.ensures c.pass-start.ensures e.value e.words_after e.ticks_after e.rows_after in
    sym (rows_long s c.in_ok-compared.was)

pub write_report-length-requires : goal.write_report-length-requires
write_report-length-requires c =
    let e = c.compare.ensures in
    let s = simulated c.rest_ticks-rest.ensures c.pass-start.ensures e.value e.words_after e.ticks_after e.rows_after in
    record { fact_1 = accepted s c.in_ok-compared.was; fact_2 = rows_long s c.in_ok-compared.was }

pub returns : goal.returns
returns c =
    let e = c.compare.ensures in
    let s = simulated c.rest_ticks-rest.ensures c.pass-start.ensures e.value e.words_after e.ticks_after e.rows_after in
    let w = way-done s c.in_ok-compared.was e.result_value e.result_value_2 c.taken_words-taken.ensures c.write_report-length.ensures in
    record { value = w.0; out_after = w.1.0; result_value = w.1.1.0; result_value_2 = w.1.1.1 }

pub returns-in_err-compared : goal.returns-in_err-compared
returns-in_err-compared c =
    let e = c.compare.ensures in
    let f = err_from_is_err_and c.from_residual.result c.from_residual.ensures.1 in
    let s = simulated c.rest_ticks-rest.ensures c.pass-start.ensures e.value e.words_after e.ticks_after e.rows_after in
    let w = way-refused s e.result_value e.result_value_2 (rw f.2 at f.1) c.in_err-compared.was _ in
    record { value = w.0; out_after = w.1.0; result_value = w.1.1.0; result_value_2 = w.1.1.1 }
