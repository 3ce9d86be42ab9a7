-- The ways through what the simulation program prints.
-- Assumes nothing.
use mathlib.Core.Path.{◌≡◌, refl, sym, ap, ◌∙◌}
use mathlib.Core.List.{List}
use Prim.Native.Nat.{ℕ, ◌+◌, ◌≤◌, ◌<◌, min}
use native.Mathlib.Nat.{zero-add}
use native.Mathlib.Omega.{arith}
use borrow.Author.Tests.{lt-ltb, le-ltb, leb-true}
use lib.ListN.{length}
use Rattle.head.specs.State.{power_on}
use Rattle.head.specs.declared.state.Head.{Head}
use Rattle.run.specs.Compare.{compared_of}
use Rattle.std.specs.Prelude.{Result, Ok, Err}
use Rattle.schedule.specs.Translate.{translate_error_number, translate_error_place}
use Rattle.schedule.specs.declared.TranslateError.{TranslateError}
use Rattle.run.specs.declared.compare.Comparison.{Comparison}
use Rattle.layout.specs.Numbers.{ascii}
use Rattle.layout.specs.Written.{Written, Front}
use Rattle.layout.proofs.Writing.{written-front}
use Rattle.text.specs.Lines.{too_long_line}
use Rattle.report.specs.Refusal.{refusal_text}
use Rattle.report.specs.Report.{rested, report_text, reported_by, reported_of, report_after}
use Rattle.report.specs.Printed.{answer_text, printed_for}
use Rattle.report.specs.declared.report.Reported.{Reported}
use Rattle.report.proofs.Fitting.{reported-fits, refusal-fits}

module _ (bs old : List ℕ) where
  pub printed-long : 4096 < length bs → length old ≡ 65536 → {n : ℕ} {new : List ℕ} → Written old 0 too_long_line n new
      → Front old (printed_for bs) n new
  unfolding printed_for too_long_line ascii
  printed-long h room w = rw (lt-ltb 4096 (length bs) h) (written-front w (rw room (leb-true (length too_long_line) 65536 refl)))

  module _ (few : length bs ≤ 4096) (room : length old ≡ 65536) where
    answered : {r : Result Reported TranslateError} → r ≡ reported_of power_on bs (length old) → printed_for bs ≡ answer_text r (report_text power_on bs) bs
    unfolding printed_for
    answered is = rw (le-ltb 4096 (length bs) few, is, room)

    -- the length of a report is that of its text
    reported-long : {r : Reported} → Ok r ≡ reported_of power_on bs (length old) → r.length ≡ min (length (report_text power_on bs)) (length old)
    unfolding reported_of reported_by
    reported-long {r} is = go (compared_of (rested power_on) bs) is
      where
        go : (c : Result Comparison TranslateError) → Ok r ≡ reported_by (report_text power_on bs) (length old) c → r.length ≡ min (length (report_text power_on bs)) (length old)
        go (Ok c) k =
            let said : r ≡ record { head = c.head; length = min (length (report_text power_on bs)) (length old) } = cc in
            ap (λ (x : Reported). x.length) said
        go (Err e) k = cc

    -- the head at power-on, the answer for it, and what was written
    module _ {s : Head} (on : s ≡ power_on) {r : Result Reported TranslateError} (is : r ≡ reported_of s bs (length old)) {new : List ℕ}
        (after : new ≡ report_after r (report_text s bs) old) where
      said : r ≡ reported_of power_on bs (length old)
      said = rw on at is

      pub printed-done : {x : Reported} → r ≡ Ok x → Front old (printed_for bs) x.length new
      unfolding report_after answer_text
      printed-done {x} done =
          let here : Ok x ≡ reported_of power_on bs (length old) = sym done ∙ said in
          let fits = reported-fits power_on bs (length old) (sym here) in
          let place : x.length ≡ min (0 + length (report_text power_on bs)) (length old) = reported-long here ∙ rw (zero-add (length (report_text power_on bs))) in
          rw (answered here) (written-front (record { place = place; bytes = rw (done, on) at after }) (rw room fits))

      pub printed-refused : {f : TranslateError} → r ≡ Err f → {m p : ℕ} → m ≡ translate_error_number f → p ≡ translate_error_place f
          → {n : ℕ} {last : List ℕ} → Written new 0 (refusal_text m p bs) n last → Front old (printed_for bs) n last
      unfolding report_after answer_text
      printed-refused {f} refusal {m} {p} number place w =
          let fits = refusal-fits m p bs in
          let same = rw refusal at after in
          rw (answered (sym refusal ∙ said), ← number, ← place) (written-front (rw same at w) (rw room (omega arith)))
