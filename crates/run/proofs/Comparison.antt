-- The ways through `compare`.
-- Assumes nothing.
use mathlib.Core.Path.{◌≡◌, refl, sym, ap, ◌∙◌}
use mathlib.Core.Bool.{Bool}
use mathlib.Core.List.{List}
use Prim.Native.Nat.{ℕ, ◌+◌, ◌*◌, ◌≤◌}
use native.Mathlib.Omega.{arith}
use lib.ListN.{length, take, drop}
use lib.Seq.{take_at}
use Rattle.head.specs.declared.state.Head.{Head}
use Rattle.plan.specs.Read.{read_record}
use Rattle.plan.specs.Stored.{plan_of}
use Rattle.plan.proofs.Recorded.{record-long}
use Rattle.schedule.specs.Schedule.{Schedule}
use Rattle.schedule.specs.Translate.{most_words, schedule_of, translate_of, filled, tick_list, word_list, translation_number, translation_place}
use Rattle.std.specs.Prelude.{Result, Ok, Err}
use Rattle.schedule.specs.declared.Translation.{Translation}
use Rattle.schedule.specs.declared.TranslateError.{TranslateError}
use Rattle.run.specs.Run.{moments_of, head_after, log_of}
use Rattle.run.specs.Rehearse.{rehearsed_by, rehearse_of, translation_of, run_of, run_record, run_times, rehearsed_number, rehearsed_place}
use Rattle.run.specs.Compare.{same, compared_by, compared_of, compared_number, compared_place}
use Rattle.run.specs.declared.Rehearsal.{Rehearsal}
use Rattle.run.specs.declared.compare.Comparison.{Comparison}
use Rattle.run.proofs.Accepted.{translated-list, translated-end, translated-acts}
use Rattle.run.proofs.Rehearsed.{Answers}

-- the translation's answer, the number of acts and the head, in a rehearsal's
translation-back : (s : Head) (sch : Schedule) (t : Result Translation TranslateError) → translation_of (rehearsed_by s sch t) ≡ t
unfolding rehearsed_by
translation-back s sch (Ok t) = refl
translation-back s sch (Err e) = refl

run-back : (s : Head) (sch : Schedule) (r : Rehearsal) (t : Translation) → Ok r ≡ rehearsed_by s sch (Ok t)
    → r ≡ record { head = head_after t.end 0 sch.list s; count = t.count; end = t.end; acts = length (log_of (moments_of t.end 0 sch.list s)) }
unfolding rehearsed_by
run-back s sch r t is = cc

-- the promises of `compare`, for an answer and the buffers as they came back
abbrev Promised : Head → List ℕ → List ℕ → List ℕ → List ℕ → List ℕ → Result Comparison TranslateError → List ℕ → List ℕ → List ℕ → List ℕ → Type 0
Promised s bs W T R A c W' T' R' A' =
    let sch = schedule_of s (plan_of bs) in
    (c ≡ compared_of s bs)
    × ((W' ≡ filled (translate_of s bs most_words most_words) (word_list sch) W)
    × ((T' ≡ filled (translate_of s bs most_words most_words) (tick_list sch) T)
    × ((R' ≡ filled (translate_of s bs most_words most_words) (run_record s sch) R)
    × ((A' ≡ filled (translate_of s bs most_words most_words) (run_times s sch) A)
    × ((compared_number c ≡ translation_number s bs most_words most_words) × (compared_place c ≡ translation_place s bs))))))

module _ (s : Head) (bs W T R A : List ℕ) (long_w : length W ≡ most_words) (long_t : length T ≡ most_words)
    {W' T' R' A' : List ℕ} {r : Result Rehearsal TranslateError} (ran : Answers s bs W T R A r W' T' R' A') where
  abbrev sch : Schedule
  sch = schedule_of s (plan_of bs)

  told : r ≡ rehearsed_by s sch (translate_of s bs most_words most_words)
  unfolding rehearse_of
  told = rw (long_w, long_t) at ran.0

  answer : translation_of r ≡ translate_of s bs most_words most_words
  answer = ap translation_of told ∙ translation-back s sch (translate_of s bs most_words most_words)

  words_are : W' ≡ filled (translate_of s bs most_words most_words) (word_list sch) W
  words_are = rw answer at ran.1.0

  ticks-are : T' ≡ filled (translate_of s bs most_words most_words) (tick_list sch) T
  ticks-are = rw answer at ran.1.1.0

  rows_are : R' ≡ filled (translate_of s bs most_words most_words) (run_record s sch) R
  rows_are = rw answer at ran.1.1.1.0

  times-are : A' ≡ filled (translate_of s bs most_words most_words) (run_times s sch) A
  times-are = rw answer at ran.1.1.1.1.0

  number_is : rehearsed_number r ≡ translation_number s bs most_words most_words
  number_is = rw (long_w, long_t) at ran.1.1.1.1.1.1.0

  place_is : rehearsed_place r ≡ translation_place s bs
  place_is = ran.1.1.1.1.1.1.1

  -- the translation's refusal
  pub way-refused : {c : Result Comparison TranslateError} {f : TranslateError} → c ≡ Err f → r ≡ Err f → Promised s bs W T R A c W' T' R' A'
  unfolding compared_by compared_of
  way-refused refused is =
      rw refused (
        rw (← answer, is),
        (words_are, (ticks-are, (rows_are, (times-are, (rw is at number_is, rw is at place_is))))),
      )

  module _ {x : Rehearsal} (is : r ≡ Ok x) where
    abbrev h : Head
    h = x.head

    abbrev n : ℕ
    n = x.count

    abbrev e : ℕ
    e = x.end

    abbrev a : ℕ
    a = x.acts

    done : translate_of s bs most_words most_words ≡ Ok (record { count = n; end = e })
    done = sym answer ∙ ap translation_of is

    back : x ≡ record { head = head_after e 0 sch.list s; count = n; end = e; acts = length (log_of (moments_of e 0 sch.list s)) }
    back = run-back s sch x (record { count = n; end = e }) (sym is ∙ told ∙ ap (rehearsed_by s sch) done)

    translated : Ok (record { count = n; end = e }) ≡ translate_of s bs (length W) (length T)
    translated = rw (long_w, long_t) (sym done)

    words : W' ≡ filled (Ok (record { count = n; end = e })) (word_list sch) W
    words = rw done at words_are

    ticks : T' ≡ filled (Ok (record { count = n; end = e })) (tick_list sch) T
    ticks = rw done at ticks-are

    acts : a ≡ length (log_of (moments_of e 0 sch.list s))
    acts = ap (λ (y : Rehearsal). y.acts) back

    ends : e ≡ sch.end
    ends = translated-end s bs W T W' T' n e translated words ticks

    last : h ≡ head_after sch.end 0 sch.list s
    last = ap (λ (y : Rehearsal). y.head) back ∙ ap (λ (n : ℕ). head_after n 0 sch.list s) ends

    pub way-acts : a ≤ 64
    way-acts =
        let list = translated-list s bs W T W' T' n e translated words ticks in
        let few = translated-acts s bs W T W' T' n e translated words ticks in
        omega (arith, acts, rw list at few)

    acts-are : a ≡ length (log_of (run_of s sch))
    acts-are = acts ∙ ap (λ (n : ℕ). length (log_of (moments_of n 0 sch.list s))) ends

    front : take (21 * a + 21) R' ≡ run_record s sch
    unfolding filled run_record
    front =
        let values = run_record s sch in
        let long = record-long (log_of (run_of s sch)) (head_after sch.end 0 sch.list s).settings in
        ap (take (21 * a + 21)) (rw done at rows_are)
        ∙ take_at values (drop (length values) R) (21 * a + 21) (long ∙ ap (λ (n : ℕ). 21 * n + 21) (sym acts-are))

    pub way-done : {b : Bool} → b ≡ same (take (21 * a + 21) R') (read_record s.settings (plan_of bs))
        → Promised s bs W T R A (Ok (record { head = h; count = n; end = e; acts = a; equal = b })) W' T' R' A'
    unfolding compared_by compared_of
    way-done compared =
        let equal = compared ∙ ap (λ (l : List ℕ). same l (read_record s.settings (plan_of bs))) front in
        (rw (done, last, acts-are, equal), (words_are, (ticks-are, (rows_are, (times-are, (rw is at number_is, rw is at place_is))))))
