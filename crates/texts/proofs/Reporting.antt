-- The ways through `put_report` and the exported report: s is the head, bs the plan, m the array in which the report is made, old the
-- caller's.
-- Assumes nothing.
use mathlib.Core.Path.{◌≡◌, refl, sym, ap, ◌∙◌}
use mathlib.Core.Bool.{Bool, true, false, cond, not}
use mathlib.Core.List.{List}
use Prim.Native.Nat.{ℕ, ◌≤◌, ◌<◌, ◌^◌, min}
use native.Mathlib.Nat.{zero-add}
use native.Mathlib.Omega.{arith}
use lib.Dec.{eqb}
use lib.ListN.{length, take}
use mir.Syntax.{w8}
use mir.Val.{Fits}
use Rattle.head.specs.Row.{places, numbers_of, state_of}
use Rattle.head.specs.declared.state.Head.{Head}
use Rattle.plan.specs.Stored.{Plan, orders, refused, byte_at, plan_of, orders_in}
use Rattle.plan.proofs.Accepted.{accepted-few}
use Rattle.schedule.specs.Schedule.{Schedule}
use Rattle.std.specs.Prelude.{Result, Ok, Err}
use Rattle.schedule.specs.Translate.{most_words, schedule_of, translate_of, translation_number, translation_place, translate_error_number, translate_error_place}
use Rattle.schedule.specs.declared.Translation.{Translation}
use Rattle.schedule.specs.declared.TranslateError.{TranslateError}
use Rattle.run.specs.Run.{head_after}
use Rattle.schedule.proofs.Numbered.{translation-number}
use Rattle.run.specs.Compare.{compared_by, compared_of}
use Rattle.layout.specs.Written.{Front}
use Rattle.layout.proofs.Writing.{written-front}
use Rattle.report.specs.Report.{rested, report_text, reported_by, reported_of, report_after}
use Rattle.report.specs.declared.report.Reported.{Reported}
use Rattle.report.proofs.Fitting.{report-fits}
use Rattle.interface.specs.State.{well_formed}
use Rattle.interface.specs.Plans.{packed}
use Rattle.texts.specs.Texts.{has_room, text_after, room_answer, text_answer, is_put, place_for, plan_end, report_number, report_answer, report_left, report_state}
use Rattle.texts.proofs.Refused.{some-number, translation-small}
use Rattle.texts.proofs.Handed.{well-number, well-place, ill-number, ill-place, front-room, front-count, front-small, front-answer, front-after, front-state, refused-answer, refused-left, refused-state}

few : (bs : List ℕ) → length (orders_in (plan_of bs)) ≤ 64
few bs = go (plan_of bs) refl
  where
    go : (p : Plan) → plan_of bs ≡ p → length (orders_in (plan_of bs)) ≤ 64
    go (orders os) e = rw e (accepted-few bs os e)
    go (refused n p) e = rw e (omega arith)

-- what a report that is done says: no refusal, the head at the plan's end, and the text at the front of the array m
record Made (s : Head) (bs m : List ℕ) (h : Head) (n : ℕ) (made : List ℕ) : Type 0 where
  none : translation_number (rested s) bs most_words most_words ≡ 0
  last : h ≡ plan_end (rested s) bs
  front : Front m (report_text s bs) n made

module _ (s : Head) (bs m : List ℕ) where
  abbrev sch : Schedule
  sch = schedule_of (rested s) (plan_of bs)

  module _ {o : Reported} (is : Ok o ≡ reported_of s bs (length m)) {made : List ℕ} (after : made ≡ report_after (Ok o) (report_text s bs) m) (whole : length m ≡ 65536) where
    made-is : Made s bs m o.head o.length made
    unfolding reported_of reported_by report_after compared_of compared_by plan_end
    made-is = go (translate_of (rested s) bs most_words most_words) refl is
      where
        go : (t : Result Translation TranslateError) → translate_of (rested s) bs most_words most_words ≡ t
            → Ok o ≡ reported_by (report_text s bs) (length m) (compared_by (rested s) (plan_of bs) sch t) → Made s bs m o.head o.length made
        go (Ok k) a same =
            let is : o ≡ record { head = head_after sch.end 0 sch.list (rested s); length = min (length (report_text s bs)) (length m) } = cc same in
            let place : o.length ≡ min (length (report_text s bs)) (length m) = ap (λ (x : Reported). x.length) is in
            record {
              none = sym (translation-number (rested s) bs most_words most_words) ∙ rw a;
              last = ap (λ (x : Reported). x.head) is;
              front =
                  written-front
                  (record { place = place ∙ rw (zero-add (length (report_text s bs))); bytes = after })
                  (omega (arith, report-fits s bs (few bs)));
            }
        go (Err f) a same = absurd (cc)

    pub reported-room : o.length ≤ length made
    reported-room = front-room made-is.front

    pub reported-count : o.length ≡ length (take o.length made)
    reported-count = front-count made-is.front

    pub reported-small : length (take o.length made) < 2 ^ 32
    reported-small = front-small made-is.front (omega (arith, report-fits s bs (few bs)))

    -- the array l holds the head
    module _ (l : List ℕ) (long : length l ≡ places) (loaded : s ≡ state_of l) (old : List ℕ) where
      none : report_number l bs ≡ 0
      unfolding report_number
      none = rw (← loaded) (well-number l long (rested s) bs ∙ made-is.none)

      -- what was handed over: the answer, the text and the state
      pub reported-answer : {x : ℕ} → x ≡ room_answer (take o.length made) old → x ≡ report_answer l bs old
      unfolding report_answer
      reported-answer e = rw (← loaded) (front-answer made-is.front none old (place_for l (rested s) bs) e)

      pub reported-left : {new : List ℕ} → new ≡ text_after (has_room (take o.length made) old) (take o.length made) old → new ≡ report_left l bs old
      unfolding report_left
      reported-left e = rw (← loaded) (front-after made-is.front none old e)

      pub reported-state : {left : List ℕ} → left ≡ cond (has_room (take o.length made) old) (numbers_of o.head) l → left ≡ report_state l bs old
      unfolding report_state
      reported-state e = rw (← loaded, ← made-is.last) (front-state made-is.front none old (numbers_of o.head) l e)

module _ (s : Head) (bs : List ℕ) where
  module _ (e : TranslateError) {n : ℕ} (number_made : n ≡ translate_error_number e) {p : ℕ} (place_made : p ≡ translate_error_place e) where
    pub unreported-small : translate_error_place e ≡ translation_place (rested s) bs → ((k : ℕ) → Fits w8 (byte_at bs k)) → p < 2 ^ 32
    unreported-small place bytes = rw (place_made, place) (translation-small (rested s) bs bytes)

    module _ (number : translate_error_number e ≡ translation_number (rested s) bs most_words most_words) (l : List ℕ) (long : length l ≡ places) (loaded : s ≡ state_of l) (old : List ℕ) where
      number_is : n ≡ report_number l bs
      unfolding report_number
      number_is = rw (← loaded, well-number l long (rested s) bs, ← number, number_made)

      some : eqb (report_number l bs) 0 ≡ false
      some = rw (← number_is, number_made) (some-number e)

      pub unreported-left : old ≡ report_left l bs old
      unfolding report_left
      unreported-left = refused-left (report_number l bs) some (report_text (state_of l) bs) old

      pub unreported-state : l ≡ report_state l bs old
      unfolding report_state
      unreported-state = refused-state (report_number l bs) some (report_text (state_of l) bs) old (numbers_of (plan_end (rested (state_of l)) bs)) l

      pub unreported-answer : translate_error_place e ≡ translation_place (rested s) bs → {x : ℕ} → x ≡ packed n 0 p → x ≡ report_answer l bs old
      unfolding report_answer
      unreported-answer place is =
          let place_is : p ≡ place_for l (rested (state_of l)) bs = rw (← loaded, well-place l long (rested s) bs, ← place, place_made) in
          refused-answer (report_number l bs) some (report_text (state_of l) bs) old (place_for l (rested (state_of l)) bs) (is ∙ rw (← number_is, ← place_is))

-- an array that is no state: i is what `well_formed` answered
module _ (l bs old : List ℕ) {i : Bool} (is : i ≡ well_formed l) (bad : not i ≡ true) where
  ill : report_number l bs ≡ 1
  unfolding report_number
  ill = ill-number l is bad (rested (state_of l)) bs

  pub report-ill : 1 ≡ report_answer l bs old
  unfolding report_answer text_answer
  report-ill = rw (ill, ill-place l is bad (rested (state_of l)) bs)

  pub report-ill-left : old ≡ report_left l bs old
  unfolding report_left is_put text_after
  report-ill-left = rw ill

  pub report-ill-state : l ≡ report_state l bs old
  unfolding report_state is_put
  report-ill-state = rw ill
