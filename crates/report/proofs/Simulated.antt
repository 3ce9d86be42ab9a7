-- A plan compared with its reading, and what the report says of it.
-- Assumes nothing.
use mathlib.Core.Path.{◌≡◌, refl, sym, ap, ◌∙◌}
use mathlib.Core.Bool.{Bool}
use mathlib.Core.List.{List, map}
use Prim.Native.Nat.{ℕ, ◌≤◌, min}
use native.Mathlib.Nat.{zero-add}
use native.Mathlib.Omega.{arith}
use lib.ListN.{length, take, drop, replicate, length-map, length-take}
use lib.Seq.{take_at}
use Rattle.head.specs.Busy.{rest_ticks}
use Rattle.head.specs.Tick.{ticks_of}
use Rattle.head.specs.List.{numbers_listed, list_of}
use Rattle.head.specs.declared.state.Head.{Head}
use Rattle.head.specs.declared.list.Listed.{Listed}
use Rattle.plan.specs.Read.{read_record, at_front}
use Rattle.plan.specs.Rows.{record_of}
use Rattle.plan.specs.Stored.{orders, plan_of, orders_in}
use Rattle.plan.proofs.Recorded.{front_long, record-long}
use Rattle.plan.proofs.Logging.{log-few as acts-few}
use Rattle.schedule.specs.Schedule.{Timed, Schedule}
use Rattle.schedule.specs.Translate.{most_words, schedule_of, translate_of, filled, word_list, tick_list, translation_number, translation_place}
use Rattle.std.specs.Prelude.{Result, Ok, Err}
use Rattle.schedule.specs.declared.Translation.{Translation}
use Rattle.schedule.specs.declared.TranslateError.{TranslateError}
use Rattle.run.specs.Run.{head_after, log_of}
use Rattle.run.specs.Rehearse.{run_of, run_record}
use Rattle.run.specs.Compare.{same, compared_by, compared_of, compared_number, compared_place}
use Rattle.run.specs.Listed.{NoCause}
use Rattle.run.specs.Claim.{paired, Demands}
use Rattle.run.specs.declared.compare.Comparison.{Comparison}
use Rattle.run.proofs.Accepted.{translated-demands, translated-list, translated-end}
use Rattle.run.proofs.Listed.{translated-listed}
use Rattle.layout.specs.Written.{Written}
use Rattle.report.specs.Read.{entries_in}
use Rattle.report.specs.Lines.{order_lines}
use Rattle.report.specs.Report.{rested, taken_in, text_of, report_text, reported_by, reported_of, report_after, reported_number, reported_place}
use Rattle.report.specs.declared.report.Reported.{Reported}
use Rattle.report.proofs.Logs.{acts_in, log-acts, record-entry, lines-alike}

-- the head that was given, the ticks until it is at rest and the head then; the answer of the comparison and the buffers that it filled
pub record Simulated (given : Head) (bs W T R : List ℕ) (rest : ℕ) (s : Head) (c : Result Comparison TranslateError) (W' T' R' : List ℕ) : Type 0 where
  pub ticks : rest ≡ rest_ticks given
  pub start : s ≡ ticks_of rest given
  pub long_w : length W ≡ most_words
  pub long_t : length T ≡ most_words
  pub long_r : length R ≡ 1365
  pub is : c ≡ compared_of s bs
  pub words_is : W' ≡ filled (translate_of s bs most_words most_words) (word_list (schedule_of s (plan_of bs))) W
  pub ticks_is : T' ≡ filled (translate_of s bs most_words most_words) (tick_list (schedule_of s (plan_of bs))) T
  pub rows_is : R' ≡ filled (translate_of s bs most_words most_words) (run_record s (schedule_of s (plan_of bs))) R

-- what an answer says that is no refusal
record Parts (s : Head) (bs : List ℕ) (c : Comparison) : Type 0 where
  done : translate_of s bs most_words most_words ≡ Ok (record { count = c.count; end = c.end })
  last : c.head ≡ head_after (schedule_of s (plan_of bs)).end 0 (schedule_of s (plan_of bs)).list s
  equal : c.equal ≡ same (run_record s (schedule_of s (plan_of bs))) (read_record s.settings (plan_of bs))

module _ {given : Head} {bs W T R : List ℕ} {rest : ℕ} {s : Head} {c : Result Comparison TranslateError} {W' T' R' : List ℕ} (h : Simulated given bs W T R rest s c W' T' R') where
  abbrev sch : Schedule
  sch = schedule_of s (plan_of bs)

  same_start : s ≡ rested given
  same_start = h.start ∙ rw h.ticks

  module _ {x : Comparison} (is : c ≡ Ok x) where
    abbrev last : Head
    last = x.head

    abbrev n : ℕ
    n = x.count

    abbrev e : ℕ
    e = x.end

    abbrev b : Bool
    b = x.equal

    parts : Parts s bs x
    unfolding compared_of compared_by
    parts = go (translate_of s bs most_words most_words) refl (sym is ∙ h.is)
      where
        go : (t : Result Translation TranslateError) → translate_of s bs most_words most_words ≡ t → Ok x ≡ compared_by s (plan_of bs) sch t → Parts s bs x
        go (Ok t) k eq =
            let said : x ≡ record { head = head_after sch.end 0 sch.list s; count = t.count; end = t.end; acts = length (log_of (run_of s sch)); equal = same (run_record s sch) (read_record s.settings (plan_of bs)) } = cc in
            record {
              done = rw said k;
              last = ap (λ (y : Comparison). y.head) said;
              equal = ap (λ (y : Comparison). y.equal) said;
            }
        go (Err f) k eq = cc

    answer : Ok (record { count = n; end = e }) ≡ translate_of s bs (length W) (length T)
    answer = rw (h.long_w, h.long_t) (sym parts.done)

    words : W' ≡ filled (Ok (record { count = n; end = e })) (word_list sch) W
    words = rw parts.done at h.words_is

    ticks : T' ≡ filled (Ok (record { count = n; end = e })) (tick_list sch) T
    ticks = rw parts.done at h.ticks_is

    demands : Demands s bs (orders_in (plan_of bs)) (paired (take n T') (take n W')) n e
    demands = translated-demands s bs W T W' T' n e answer words ticks

    count : n ≡ length sch.list
    count = sym demands.counted ∙ ap length (translated-list s bs W T W' T' n e answer words ticks)

    count-few : n ≤ most_words
    count-few = demands.most

    -- the first places of a buffer are the numbers that filled it
    front : (f : Timed → ℕ) (old new : List ℕ) → new ≡ filled (Ok (record { count = n; end = e })) (map f sch.list) old → take n new ≡ map f sch.list
    unfolding filled
    front f old new k = rw k (take_at (map f sch.list) (drop (length (map f sch.list)) old) n (length-map sch.list f ∙ sym count))

    words_are : take n W' ≡ word_list sch
    words_are = front (λ (x : Timed). x.word) W W' words

    ticks-are : take n T' ≡ tick_list sch
    ticks-are = front (λ (x : Timed). x.tick) T T' ticks

    even : length (take n W') ≡ length (take n T')
    even = rw (words_are, ticks-are) (length-map sch.list (λ (x : Timed). x.word) ∙ sym (length-map sch.list (λ (x : Timed). x.tick)))

    long : length (take n W') ≡ n
    long = ap length words_are ∙ length-map sch.list (λ (x : Timed). x.word) ∙ sym count

    pub words_long : n ≡ length (take n W')
    words_long = sym long

    pub ticks-long : n ≡ length (take n T')
    ticks-long = sym long ∙ even

    pub words-room : n ≤ length W'
    words-room = omega (arith, words_long, length-take n W')

    pub ticks-room : n ≤ length T'
    ticks-room = omega (arith, ticks-long, length-take n T')

    -- what giving the list to the head asks
    pub given-asks : (length (take n W') ≡ length (take n T'))
        × ((length (take n W') ≤ most_words) × ((list_of s (take n W') (take n T') most_words).answer ≡ Ok tt))
    given-asks =
        let few : length (take n W') ≤ most_words = rw long count-few in
        let whole = (translated-listed s bs W T W' T' n e answer words ticks).answer most_words few in
        (even, (few, ap (λ (r : Listed). r.answer) whole))

    -- no outcome of the list is a cause
    pub lists-taken : NoCause (numbers_listed (word_list sch) (tick_list sch) s)
    lists-taken = rw (← words_are, ← ticks-are) (translated-listed s bs W T W' T' n e answer words ticks).taken

    pub accepted : plan_of bs ≡ orders (orders_in (plan_of bs))
    accepted = demands.accepted

    pub orders-few : length (orders_in (plan_of bs)) ≤ 64
    orders-few = demands.few

    log_is : length (log_of (run_of s sch)) ≡ acts_in (orders_in (plan_of bs))
    log_is =
        let list = translated-list s bs W T W' T' n e answer words ticks in
        let end = translated-end s bs W T W' T' n e answer words ticks in
        ap length (rw (list, end) at demands.run.log) ∙ log-acts s.settings (orders_in (plan_of bs))

    log-few : length (log_of (run_of s sch)) ≤ 64
    log-few = let few = demands.few in omega (arith, log_is, log-acts s.settings (orders_in (plan_of bs)), acts-few s.settings (orders_in (plan_of bs)))

    rows_are : R' ≡ at_front (run_record s sch) R
    unfolding filled at_front
    rows_are = rw parts.done at h.rows_is

    pub rows_long : length R' ≡ 1365
    unfolding run_record
    rows_long =
        let log = log_of (run_of s sch) in
        let r = (head_after sch.end 0 sch.list s).settings in
        let room = h.long_r in
        let few = log-few in
        ap length rows_are ∙ front_long (record_of log r) R (rw (record-long log r) (omega arith)) ∙ room

    lines_are : order_lines 0 0 0 s.settings (orders_in (plan_of bs)) (take n T') (entries_in 65 R')
        ≡ order_lines 0 0 0 s.settings (orders_in (plan_of bs)) (tick_list sch) (log_of (run_of s sch))
    unfolding run_record
    lines_are =
        let log = log_of (run_of s sch) in
        let r = (head_after sch.end 0 sch.list s).settings in
        let few = log-few in
        rw (ticks-are, rows_are)
        (lines-alike (entries_in 65 (at_front (record_of log r) R)) log (tick_list sch) (orders_in (plan_of bs)) 0 0 0 s.settings
        (λ i less. record-entry log r R 65 i (omega (arith, log_is)) (omega (arith, log_is))))

    -- the text of what came back is the report
    text-is : {t : ℕ} → t ≡ taken_in (numbers_listed (take n W') (take n T') s)
        → text_of bs (take n T') (entries_in 65 R') (record { given = given; rest = rest; head = s }) last
        (record { end = e; words = n; taken = t; equal = b })
        ≡ report_text given bs
    unfolding text_of report_text
    text-is taken =
        rw (
          lines_are,
          taken,
          words_are,
          ticks-are,
          parts.last,
          parts.equal,
          count,
          translated-end s bs W T W' T' n e answer words ticks,
          h.ticks,
          ← same_start,
        )

    -- done: the promises of the report
    pub way-done : compared_number c ≡ translation_number s bs most_words most_words → compared_place c ≡ translation_place s bs → {t : ℕ} → t ≡ taken_in (numbers_listed (take n W') (take n T') s) → {out : List ℕ} {k : ℕ} {out' : List ℕ}
        → Written out 0 (text_of bs (take n T') (entries_in 65 R') (record { given = given; rest = rest; head = s }) last
        (record { end = e; words = n; taken = t; equal = b })) k out'
        → (Ok (record { head = last; length = k }) ≡ reported_of given bs (length out))
        × ((out' ≡ report_after (Ok (record { head = last; length = k })) (report_text given bs) out)
        × ((reported_number (Ok (record { head = last; length = k })) ≡ translation_number (rested given) bs most_words most_words)
        × (reported_place (Ok (record { head = last; length = k })) ≡ translation_place (rested given) bs)))
    unfolding reported_of reported_by report_after
    way-done number place_is taken {out} {k} w =
        let written = rw (text-is taken) at w in
        let place : k ≡ min (length (report_text given bs)) (length out) = written.place ∙ rw (zero-add (length (report_text given bs))) in
        (rw (← same_start, ← h.is, is, place), (written.bytes, (rw (is, same_start) at number, rw (is, same_start) at place_is)))

  -- refused: the comparison's error, and nothing is written
  pub way-refused : compared_number c ≡ translation_number s bs most_words most_words → compared_place c ≡ translation_place s bs
      → {r : Result Reported TranslateError} {f : TranslateError} → r ≡ Err f → c ≡ Err f → (out : List ℕ)
      → (r ≡ reported_of given bs (length out))
      × ((out ≡ report_after r (report_text given bs) out)
      × ((reported_number r ≡ translation_number (rested given) bs most_words most_words)
      × (reported_place r ≡ translation_place (rested given) bs)))
  unfolding reported_of reported_by report_after
  way-refused number place_is answered is out =
      rw answered (rw (← same_start, ← h.is, is), (refl, (rw (is, same_start) at number, rw (is, same_start) at place_is)))

-- the comparison with buffers of zeros
pub simulated-zeros : (given : Head) (bs : List ℕ)
    → let s = rested given in
    let answer = translate_of s bs most_words most_words in
    let sch = schedule_of s (plan_of bs) in
    Simulated given bs (replicate most_words 0) (replicate most_words 0) (replicate 1365 0) (rest_ticks given) s (compared_of s bs)
    (filled answer (word_list sch) (replicate most_words 0))
    (filled answer (tick_list sch) (replicate most_words 0))
    (filled answer (run_record s sch) (replicate 1365 0))
simulated-zeros given bs =
    record {
      ticks = refl;
      start = refl;
      long_w = refl;
      long_t = refl;
      long_r = refl;
      is = refl;
      words_is = refl;
      ticks_is = refl;
      rows_is = refl;
    }

-- a plan that is reported has at most 64 orders
pub reported-few : (given : Head) (bs : List ℕ) (room : ℕ) {r : Reported} → reported_of given bs room ≡ Ok r
    → length (orders_in (plan_of bs)) ≤ 64
unfolding reported_of reported_by
reported-few given bs room {r} is = go (compared_of (rested given) bs) refl is
  where
    go : (c : Result Comparison TranslateError) → compared_of (rested given) bs ≡ c → reported_by (report_text given bs) room (compared_of (rested given) bs) ≡ Ok r
        → length (orders_in (plan_of bs)) ≤ 64
    go (Ok x) k eq = orders-few (simulated-zeros given bs) k
    go (Err f) k eq = cc (rw k at eq)
