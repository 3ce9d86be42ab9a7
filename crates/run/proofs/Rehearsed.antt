-- The ways through `rehearse`, and what its answer says of the head.
-- Assumes nothing.
use mathlib.Core.Path.{◌≡◌, refl, ap, ◌∙◌}
use mathlib.Core.List.{List}
use Prim.Native.Nat.{ℕ, ◌≤◌}
use native.Mathlib.Omega.{arith}
use lib.ListN.{length}
use lib.Seq.{sets}
use Rattle.head.specs.declared.state.Head.{Head}
use Rattle.plan.specs.Reading.{settings_read}
use Rattle.plan.specs.Read.{at_front}
use Rattle.plan.specs.Stored.{plan_of, orders_in}
use Rattle.plan.proofs.Laid.{sets-front}
use Rattle.plan.proofs.Recorded.{record-front}
use Rattle.schedule.specs.Schedule.{Schedule, Rising}
use Rattle.schedule.specs.Translate.{schedule_of, filled, tick_list, word_list, translated_number, translated_place, translation_number, translation_place}
use Rattle.std.specs.Prelude.{Result, Ok, Err}
use Rattle.schedule.specs.declared.Translation.{Translation}
use Rattle.schedule.specs.declared.TranslateError.{TranslateError}
use Rattle.schedule.proofs.Translating.{Told}
use Rattle.schedule.proofs.Numbered.{Promised, told}
use Rattle.run.specs.Run.{moments_of, head_after, log_of, times_of}
use Rattle.run.specs.Rehearse.{rehearsed_by, rehearse_of, translation_of, buffered, run_of, run_record, run_times, Fulfilled, rehearsed_number, rehearsed_place}
use Rattle.run.specs.declared.Rehearsal.{Rehearsal}
use Rattle.run.proofs.Quiet.{times_long}
use Rattle.run.proofs.Accepted.{room-words, room-ticks, translated-list, translated-end, translated-acts, translated-rising, translated-demands}

-- the promises of `rehearse`, for an answer and the buffers as they came back
abbrev pub Answers : Head → List ℕ → List ℕ → List ℕ → List ℕ → List ℕ → Result Rehearsal TranslateError → List ℕ → List ℕ → List ℕ → List ℕ → Type 0
Answers s bs W T R A r W' T' R' A' =
    let sch = schedule_of s (plan_of bs) in
    (r ≡ rehearse_of s bs (length W) (length T))
    × ((W' ≡ filled (translation_of r) (word_list sch) W)
    × ((T' ≡ filled (translation_of r) (tick_list sch) T)
    × ((R' ≡ filled (translation_of r) (run_record s sch) R)
    × ((A' ≡ filled (translation_of r) (run_times s sch) A)
    × (Fulfilled s bs W' T' r
    × ((rehearsed_number r ≡ translation_number s bs (length W) (length T)) × (rehearsed_place r ≡ translation_place s bs)))))))

module _ (s : Head) (bs W T R A : List ℕ) {W' T' : List ℕ} {r : Result Translation TranslateError} (given : Promised s bs W T r W' T') where
  pub way-refused : {r' : Result Rehearsal TranslateError} {f : TranslateError} → r' ≡ Err f → r ≡ Err f → Answers s bs W T R A r' W' T' R A
  unfolding rehearse_of rehearsed_by filled Fulfilled
  way-refused answer is = let t = rw is at given in rw answer (rw (← t.0) refl, (t.1.0, (t.1.1.0, (refl, (refl, (tt, t.1.1.1))))))

  module _ {n e : ℕ} (is : r ≡ Ok (record { count = n; end = e })) where
    done : Told s bs W T (Ok (record { count = n; end = e })) W' T'
    done = rw is at (told s bs W T given)

    numbers : (translated_number (Ok (record { count = n; end = e })) ≡ translation_number s bs (length W) (length T))
        × (translated_place (Ok (record { count = n; end = e })) ≡ translation_place s bs)
    numbers = rw is at given.1.1.1

    pub way-words : n ≤ length W'
    way-words = room-words s bs W T W' T' n e done.0 done.1.0 done.1.1

    pub way-ticks : n ≤ length T'
    way-ticks = room-ticks s bs W T W' T' n e done.0 done.1.0 done.1.1

    pub way-rising : Rising 0 (buffered n e T' W').list e
    way-rising = translated-rising s bs W T W' T' n e done.0 done.1.0 done.1.1

    pub way-acts : length (log_of (run_of s (buffered n e T' W'))) ≤ 64
    way-acts = translated-acts s bs W T W' T' n e done.0 done.1.0 done.1.1

    -- the buffers hold the plan's schedule
    same : buffered n e T' W' ≡ schedule_of s (plan_of bs)
    same =
        rw (
          translated-list s bs W T W' T' n e done.0 done.1.0 done.1.1,
          translated-end s bs W T W' T' n e done.0 done.1.0 done.1.1,
        )

    -- the run's record and ticks have room
    way-rows : {R' : List ℕ} → length R ≡ 1365 → R' ≡ sets R 0 (run_record s (buffered n e T' W'))
        → R' ≡ filled (Ok (record { count = n; end = e })) (run_record s (schedule_of s (plan_of bs))) R
    unfolding filled at_front run_record
    way-rows long laid =
        let sch = buffered n e T' W' in
        laid
        ∙ record-front (log_of (run_of s sch)) (head_after e 0 sch.list s).settings R (omega (arith, way-acts))
        ∙ ap (λ (x : Schedule). filled (Ok (record { count = n; end = e })) (run_record s x) R) same

    way-times : {A' : List ℕ} → length A ≡ 64 → A' ≡ sets A 0 (run_times s (buffered n e T' W'))
        → A' ≡ filled (Ok (record { count = n; end = e })) (run_times s (schedule_of s (plan_of bs))) A
    unfolding filled run_times
    way-times long laid =
        let ms = run_of s (buffered n e T' W') in
        laid
        ∙ sets-front (times_of 0 ms) A (omega (arith, times_long 0 ms, way-acts))
        ∙ ap (λ (x : Schedule). filled (Ok (record { count = n; end = e })) (run_times s x) A) same

    module _ (long_rows : length R ≡ 1365) (long_times : length A ≡ 64) where
      pub way-done : {h : Head} {a : ℕ} {R' A' : List ℕ}
          → (h ≡ head_after e 0 (buffered n e T' W').list s)
          × ((a ≡ length (log_of (run_of s (buffered n e T' W'))))
          × ((R' ≡ sets R 0 (run_record s (buffered n e T' W'))) × (A' ≡ sets A 0 (run_times s (buffered n e T' W')))))
          → Answers s bs W T R A (Ok (record { head = h; count = n; end = e; acts = a })) W' T' R' A'
      unfolding rehearse_of rehearsed_by Fulfilled
      way-done {a = a} ran =
          let sch = schedule_of s (plan_of bs) in
          let head = ran.0 ∙ ap (λ (x : Schedule). head_after e 0 x.list s) same in
          let acts = ran.1.0 ∙ ap (λ (x : Schedule). length (log_of (moments_of e 0 x.list s))) same in (
            ap (λ (x : Head). Ok (record { head = x; count = n; end = e; acts = a })) head
                ∙ ap (λ (k : ℕ). Ok (record { head = head_after e 0 sch.list s; count = n; end = e; acts = k })) acts
                ∙ ap (rehearsed_by s sch) done.0,
            (
              done.1.0,
              (
                done.1.1,
                (
                  way-rows long_rows ran.1.1.0,
                  (
                    way-times long_times ran.1.1.1,
                    ((ran.0, translated-demands s bs W T W' T' n e done.0 done.1.0 done.1.1), numbers),
                  ),
                ),
              ),
            ),
          )

-- where `rehearse` answers a head, its settings are those that the plan, read without any words, says
pub rehearsed-settings : (s : Head) (bs W' T' : List ℕ) (r : Rehearsal) → Fulfilled s bs W' T' (Ok r)
    → r.head.settings ≡ settings_read s.settings (orders_in (plan_of bs))
unfolding Fulfilled
rehearsed-settings s bs W' T' r f = ap (λ (x : Head). x.settings) f.0 ∙ f.1.run.settings
