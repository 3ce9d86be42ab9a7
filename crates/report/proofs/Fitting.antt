-- A report has room in 65,536 bytes, and a refusal in 1,024: no text is longer than its template.
-- Assumes nothing.
use mathlib.Core.Path.{◌≡◌, refl}
use mathlib.Core.Bool.{Bool, true, false, cond, not}
use mathlib.Core.List.{List, [], ◌∷◌, ◌++◌}
use Prim.Native.Nat.{ℕ, ◌+◌, ◌*◌, ◌-◌, ◌≤◌, max}
use native.Mathlib.Nat.{suc-mul, mul-le-mul_right, le_trans}
use native.Mathlib.Omega.{arith}
use borrow.Author.Tests.{leb-true}
use lib.Dec.{eqb}
use lib.ListN.{length, get_or, length-append}
use Rattle.head.specs.State.{power_on}
use Rattle.head.specs.Row.{numbers_of}
use Rattle.head.specs.Limits.{length_of, cover_step_ticks}
use Rattle.head.specs.declared.state.FlagBits.{FlagBits}
use Rattle.head.specs.declared.state.Settings.{Settings}
use Rattle.head.specs.declared.state.Head.{Head}
use Rattle.orders.specs.Codes as code
use Rattle.orders.specs.Words.{words_of}
use Rattle.orders.specs.declared.order.Order.{Order}
use Rattle.plan.specs.Reading.{Entry, exposure, request, cover_move}
use Rattle.plan.specs.Stored.{plan_of, orders_in}
use Rattle.run.specs.Compare.{same}
use Rattle.layout.specs.Numbers.{bit, ascii}
use Rattle.layout.specs.Template.{layout}
use Rattle.layout.proofs.Widths.{layout-few}
use Rattle.registers.specs.Settings.{mirror_template, ir_template, ccd_template, lamps_template, settings_text, pair_template, pair_text}
use Rattle.registers.proofs.Fitting.{most_settings, settings-few}
use Rattle.report.specs.Acts.{exposure_text, cover_template, cover_text, request_template, entry_text}
use Rattle.report.specs.Lines.{order_shown, order_template, order_text, is_act, place_template, place_text, order_line, exposed_after, order_lines}
use Rattle.report.specs.Opening.{flags_shown, plan_template, start_template, title_template, plan_text, start_text, opening_text}
use Rattle.report.specs.Ending as end
use Rattle.report.specs.Ending.{motion_shown, same_flags, end_template, mirror_template as motion_template, end_text, motion_text, flags_template, since_template, flags_text, words_template, words_text, reading_template, reading_text, checks_text, ending_text}
use Rattle.report.specs.Refusal.{refusal_template, refusal_text}
use Rattle.report.specs.Report.{text_of, report_text, reported_of}
use Rattle.report.specs.declared.opening.Counts.{Counts}
use Rattle.report.specs.declared.ending.Outcome.{Outcome}
use Rattle.report.specs.declared.report.Start.{Start}
use Rattle.std.specs.Prelude.{Ok}
use Rattle.report.specs.declared.report.Reported.{Reported}
use Rattle.report.proofs.Simulated.{reported-few}

abbrev most_entry : ℕ
most_entry = max (length pair_template + most_settings) (max (length cover_template) (max (length request_template) (length order_template)))

pair-few : (sine cosine ticks : ℕ) → length (pair_text sine cosine ticks) ≤ length pair_template
unfolding pair_text
pair-few sine cosine ticks = layout-few pair_template (sine ∷ cosine ∷ ticks ∷ []) (sine ∷ cosine ∷ ticks ∷ [])

cover-few : (d w s n : ℕ) → length (cover_text d w s n) ≤ length cover_template
unfolding cover_text
cover-few d w s n =
    let ticks = cover_step_ticks * n in
    layout-few cover_template (d ∷ w ∷ s ∷ n ∷ ticks ∷ ticks ∷ []) (d ∷ w ∷ s ∷ n ∷ ticks ∷ ticks ∷ [])

entry-few : (e : Entry) (before : Settings) → length (entry_text e before) ≤ most_entry
unfolding entry_text exposure_text
entry-few (exposure s) before =
    let pair = pair_text s.sine s.cosine (length_of s) in
    omega (arith, length-append pair (settings_text s before), pair-few s.sine s.cosine (length_of s), settings-few s before)
entry-few request before = omega (arith, layout-few request_template [] [])
entry-few (cover_move d w s n) before = omega (arith, cover-few d w s n)

abbrev most_line : ℕ
most_line = length place_template + most_entry

place-few : (index c tick : ℕ) → length (place_text index c tick) ≤ length place_template
unfolding place_text
place-few index c tick =
    let values = index ∷ bit (not (eqb c code.wait)) ∷ tick ∷ tick ∷ [] in
    layout-few place_template values values

line-few : (index : ℕ) (o : Order) (tick : ℕ) (e : Entry) (before : Settings) → length (order_line index o tick e before) ≤ most_line
unfolding order_line order_text
line-few index o tick e before = go (is_act o.code)
  where
    go : (z : Bool) → length (place_text index o.code tick ++ cond z (entry_text e before) (layout order_template (order_shown o) (order_shown o))) ≤ most_line
    go true =
        omega (arith, length-append (place_text index o.code tick) (entry_text e before), place-few index o.code tick, entry-few e before)
    go false =
        let text = layout order_template (order_shown o) (order_shown o) in
        omega (
          arith,
          length-append (place_text index o.code tick) text,
          place-few index o.code tick,
          layout-few order_template (order_shown o) (order_shown o),
        )

lines-few : (k w a : ℕ) (before : Settings) (os : List Order) (ticks : List ℕ) (log : List Entry)
    → length (order_lines k w a before os ticks log) ≤ length os * most_line
unfolding order_lines
lines-few k w a before [] ticks log = omega arith
lines-few k w a before (o ∷ os) ticks log =
    let words = w + length (words_of o) in
    let e = get_or log a request in
    let line = order_line (k + 1) o (get_or ticks (words - 1) 0) e before in
    let acts = a + bit (is_act o.code) in
    let then = exposed_after o.code e before in
    omega (
      arith,
      length-append line (order_lines (k + 1) words acts then os ticks log),
      line-few (k + 1) o (get_or ticks (words - 1) 0) e before,
      lines-few (k + 1) words acts then os ticks log,
      suc-mul (length os) most_line,
    )

abbrev most_opening : ℕ
most_opening = length plan_template + (length start_template + most_settings + length title_template)

plan-few : (n : Counts) (on : Bool) (rest : ℕ) → length (plan_text n on rest) ≤ length plan_template
unfolding plan_text
plan-few n on rest =
    let values = n.bytes ∷ n.orders ∷ n.words ∷ bit on ∷ rest ∷ rest ∷ [] in
    layout-few plan_template values values

start-few : (f : FlagBits) (s : Settings) → length (start_text f s) ≤ length start_template + most_settings + length title_template
unfolding start_text
start-few f s =
    let flags = layout start_template (flags_shown f) (flags_shown f) in
    omega (
      arith,
      length-append (flags ++ settings_text s s) (layout title_template [] []),
      length-append flags (settings_text s s),
      layout-few start_template (flags_shown f) (flags_shown f),
      settings-few s s,
      layout-few title_template [] [],
    )

opening-few : (n : Counts) (given : Head) (rest : ℕ) (s : Head) → length (opening_text n given rest s) ≤ most_opening
unfolding opening_text
opening-few n given rest s =
    let on = same (numbers_of given) (numbers_of power_on) in
    omega (
      arith,
      length-append (plan_text n on rest) (start_text s.flags s.settings),
      plan-few n on rest,
      start-few s.flags s.settings,
    )

abbrev most_motion : ℕ
most_motion = length motion_template + length end.cover_template

motion-few : (mirror cover : ℕ) → length (motion_text mirror cover) ≤ most_motion
unfolding motion_text
motion-few mirror cover =
    omega (
      arith,
      length-append (layout motion_template (motion_shown mirror) []) (layout end.cover_template (motion_shown cover) []),
      layout-few motion_template (motion_shown mirror) [],
      layout-few end.cover_template (motion_shown cover) [],
    )

abbrev most_flags : ℕ
most_flags = length flags_template + length since_template

flags-few : (start last : FlagBits) → length (flags_text start last) ≤ most_flags
unfolding flags_text
flags-few start last =
    let values = bit (same_flags start last) ∷ [] in
    omega (
      arith,
      length-append (layout flags_template (flags_shown last) (flags_shown last)) (layout since_template values values),
      layout-few flags_template (flags_shown last) (flags_shown last),
      layout-few since_template values values,
    )

abbrev most_checks : ℕ
most_checks = length words_template + most_flags + length reading_template

checks-few : (o : Outcome) (start last : FlagBits) → length (checks_text o start last) ≤ most_checks
unfolding checks_text words_text reading_text
checks-few o start last =
    let words = layout words_template (o.taken ∷ o.words ∷ []) [] in
    let reading = layout reading_template (bit o.equal ∷ []) [] in
    omega (
      arith,
      length-append (words ++ flags_text start last) reading,
      length-append words (flags_text start last),
      layout-few words_template (o.taken ∷ o.words ∷ []) [],
      flags-few start last,
      layout-few reading_template (bit o.equal ∷ []) [],
    )

abbrev most_ending : ℕ
most_ending = length end_template + most_settings + most_motion + most_checks

end-few : (n : ℕ) (last start : Settings) → length (end_text n last start) ≤ length end_template + most_settings
unfolding end_text
end-few n last start =
    omega (
      arith,
      length-append (layout end_template (n ∷ n ∷ []) []) (settings_text last start),
      layout-few end_template (n ∷ n ∷ []) [],
      settings-few last start,
    )

ending-few : (start last : Head) (o : Outcome) → length (ending_text start last o) ≤ most_ending
unfolding ending_text
ending-few start last o =
    let first = end_text o.end last.settings start.settings in
    let motion = motion_text last.motion.mirror last.motion.cover in
    let checks = checks_text o start.flags last.flags in
    omega (
      arith,
      length-append (first ++ motion) checks,
      length-append first motion,
      end-few o.end last.settings start.settings,
      motion-few last.motion.mirror last.motion.cover,
      checks-few o start.flags last.flags,
    )

-- the templates are short enough
abbrev most_text : ℕ
most_text = most_opening + 64 * most_line + most_ending

all-few : most_text ≤ 65536
unfolding ascii mirror_template ir_template ccd_template lamps_template pair_template cover_template request_template order_template place_template
    plan_template start_template title_template end_template motion_template end.cover_template flags_template since_template words_template
    reading_template
all-few = leb-true most_text 65536 refl

text-few : (bs ticks : List ℕ) (log : List Entry) (start : Start) (last : Head) (o : Outcome) → length (orders_in (plan_of bs)) ≤ 64
    → length (text_of bs ticks log start last o) ≤ most_text
unfolding text_of
text-few bs ticks log start last o few =
    let os = orders_in (plan_of bs) in
    let counts : Counts = record { bytes = length bs; orders = length os; words = o.words } in
    let opening = opening_text counts start.given start.rest start.head in
    let lines = order_lines 0 0 0 start.head.settings os ticks log in
    omega (
      arith,
      length-append (opening ++ lines) (ending_text start.head last o),
      length-append opening lines,
      opening-few counts start.given start.rest start.head,
      lines-few 0 0 0 start.head.settings os ticks log,
      mul-le-mul_right most_line few,
      ending-few start.head last o,
    )

pub report-fits : (s : Head) (bs : List ℕ) → length (orders_in (plan_of bs)) ≤ 64 → length (report_text s bs) ≤ 65536
unfolding report_text
report-fits s bs few = le_trans (text-few bs _ _ _ _ _ few) all-few

-- a plan that is reported is one of them
pub reported-fits : (given : Head) (bs : List ℕ) (room : ℕ) {r : Reported} → reported_of given bs room ≡ Ok r
    → length (report_text given bs) ≤ 65536
reported-fits given bs room is = report-fits given bs (reported-few given bs room is)

pub refusal-fits : (number place : ℕ) (bs : List ℕ) → length (refusal_text number place bs) ≤ 1024
unfolding refusal_text refusal_template ascii
refusal-fits number place bs = le_trans (layout-few refusal_template _ _) (leb-true (length refusal_template) 1024 refl)
