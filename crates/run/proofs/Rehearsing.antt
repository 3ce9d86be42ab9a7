-- The words of two lists given to the head at their ticks, one after another: what is left of the run, and of its log, after i of them.
-- Assumes nothing.
use mathlib.Core.Path.{◌≡◌, refl, sym, ap, ◌∙◌}
use mathlib.Core.List.{List, [], ◌∷◌}
use mathlib.Core.Option.{some}
use Prim.Native.Nat.{ℕ, zero, suc, ◌+◌, ◌-◌, ◌*◌, min, ◌≤◌, ◌<◌}
use native.Mathlib.Nat.{sub-zero}
use native.Mathlib.Numerals.{add-one}
use native.Mathlib.Omega.{arith}
use lib.ListN.{length, take, drop, get_or, replicate, length-take, length-append, length-replicate, drop_of_length-le}
use lib.Seq.{sets, length-sets, drop-cons, get_or-take}
use Rattle.head.specs.Tick.{ticks_of}
use Rattle.head.specs.declared.state.Head.{Head}
use Rattle.plan.specs.Reading.{Entry}
use Rattle.plan.specs.Rows.{rows_of, end_row}
use Rattle.plan.proofs.Laid.{sets-append}
use Rattle.plan.proofs.Recorded.{record-next, record-last}
use Rattle.schedule.specs.Schedule.{Timed, Schedule, Rising}
use Rattle.run.specs.Run.{next, head_after, moment_log, log_of, times_of}
use Rattle.run.specs.Claim.{paired}
use Rattle.run.specs.Rehearse.{buffered, run_of, run_record, run_times}
use Rattle.run.proofs.Acting.{Logged}
use Rattle.run.proofs.NextWord.{timed, rising-end, ran_from, last_of, rows_from, given, first_head, first-log, first-times, none-head, none-log, none-times}

-- the length of paired lists, and their element at a place
pub paired_long : (ts ws : List ℕ) → length (paired ts ws) ≡ min (length ts) (length ws)
unfolding paired
paired_long [] ws = omega arith
paired_long (t ∷ ts) [] = omega arith
paired_long (t ∷ ts) (w ∷ ws) = omega (arith, paired_long ts ws)

paired_at : (i : ℕ) (ts ws : List ℕ) → i < length ts → i < length ws
    → get_or (paired ts ws) i (timed 0 0) ≡ timed (get_or ts i 0) (get_or ws i 0)
unfolding paired
paired_at i [] ws p q = absurd (omega arith)
paired_at i (t ∷ ts) [] p q = absurd (omega arith)
paired_at zero (t ∷ ts) (w ∷ ws) p q = refl
paired_at (suc i) (t ∷ ts) (w ∷ ws) p q = paired_at i ts ws (omega arith) (omega arith)

-- i words have been given and the clock stands where the next may go
pub record Running (words ticks : List ℕ) (count end : ℕ) (head : Head) (rows₀ times₀ rows times : List ℕ) (state : Head) (clock acts i : ℕ) : Type 0 where
  pub room_words : count ≤ length words
  pub room_ticks : count ≤ length ticks
  pub room_acts : length (log_of (run_of head (buffered count end ticks words))) ≤ length times₀
  pub rising : Rising clock (drop i (buffered count end ticks words).list) end
  pub long_rows : length rows ≡ length rows₀
  pub long_times : length times ≡ length times₀
  pub same : head_after end 0 (buffered count end ticks words).list head ≡ last_of end clock (drop i (buffered count end ticks words).list) state
  pub same_acts : length (log_of (run_of head (buffered count end ticks words)))
      ≡ acts + length (log_of (ran_from end clock (drop i (buffered count end ticks words).list) state))
  pub same_rows : sets rows₀ 0 (run_record head (buffered count end ticks words))
      ≡ sets rows (21 * acts) (rows_from end clock (drop i (buffered count end ticks words).list) state)
  pub same_times : sets times₀ 0 (run_times head (buffered count end ticks words))
      ≡ sets times acts (times_of clock (ran_from end clock (drop i (buffered count end ticks words).list) state))

module _ {words ticks : List ℕ} {count end : ℕ} {head : Head} {rows₀ times₀ : List ℕ} where
  pub running-first : count ≤ length words → count ≤ length ticks → Rising 0 (buffered count end ticks words).list end
      → length (log_of (run_of head (buffered count end ticks words))) ≤ length times₀
      → Running words ticks count end head rows₀ times₀ rows₀ times₀ head 0 0 0
  unfolding run_record run_times
  running-first p q r a =
      record {
        room_words = p;
        room_ticks = q;
        room_acts = a;
        rising = r;
        long_rows = refl;
        long_times = refl;
        same = rw (sub-zero end);
        same_acts = rw (sub-zero end) (omega arith);
        same_rows = rw (sub-zero end);
        same_times = rw (sub-zero end);
      }

  module _ {rows times : List ℕ} {state : Head} {clock acts i : ℕ}
      (h : Running words ticks count end head rows₀ times₀ rows times state clock acts i) where
    abbrev sch : Schedule
    sch = buffered count end ticks words

    abbrev list : List Timed
    list = sch.list

    long : length list ≡ count
    long =
        let p = h.room_words in
        let q = h.room_ticks in
        omega (arith, paired_long (take count ticks) (take count words), length-take count ticks, length-take count words)

    pub running-ends : clock ≤ end
    running-ends = rising-end clock (drop i list) end h.rising

    module _ (more : i < count) where
      abbrev tick : ℕ
      tick = get_or ticks i 0

      abbrev word : ℕ
      word = get_or words i 0

      abbrev rest : List Timed
      rest = drop (i + 1) list

      split : drop i list ≡ timed tick word ∷ rest
      split =
          let p : i < length (take count ticks) = let room = h.room_ticks in omega (arith, length-take count ticks) in
          let q : i < length (take count words) = let room = h.room_words in omega (arith, length-take count words) in
          drop-cons list i (timed 0 0) (rw long more)
          ∙ rw (
            paired_at i (take count ticks) (take count words) p q,
            get_or-take count ticks i 0 more,
            get_or-take count words i 0 more,
            ← add-one i,
          )

      rises : Rising clock (timed tick word ∷ rest) end
      rises = rw split at h.rising

      pub running-after : clock ≤ get_or ticks i 0
      running-after = rises.0

      pub running-before : get_or ticks i 0 + 1 ≤ end
      running-before = rising-end (tick + 1) rest end rises.1

      -- the word's entries, and those after it
      entries : List Entry
      entries = moment_log (given (ticks_of (tick - clock) state) word)

      after : Head
      after = next (ticks_of (tick - clock) state) (some word)

      left : length (log_of (run_of head sch)) ≡ acts + (length entries + length (log_of (ran_from end (tick + 1) rest after)))
      unfolding entries after
      left =
          h.same_acts
          ∙ ap (λ (l : List Timed). acts + length (log_of (ran_from end clock l state))) split
          ∙ ap (λ (l : List Entry). acts + length l) (first-log clock end tick word rest state rises)
          ∙ ap (λ (n : ℕ). acts + n) (length-append entries (log_of (ran_from end (tick + 1) rest after)))

      pub running-room : acts + length (moment_log (given (ticks_of (get_or ticks i 0 - clock) state) (get_or words i 0))) ≤ length times
      unfolding entries
      running-room = let room = h.room_acts in let l = h.long_times in omega (arith, left)

      core : Running words ticks count end head rows₀ times₀ (sets rows (21 * acts) (rows_of entries))
          (sets times acts (replicate (length entries) tick)) after (tick + 1) (acts + length entries) (i + 1)
      unfolding entries after
      core =
          record {
            room_words = h.room_words;
            room_ticks = h.room_ticks;
            room_acts = h.room_acts;
            rising = rises.1;
            long_rows = length-sets rows (21 * acts) (rows_of entries) ∙ h.long_rows;
            long_times = length-sets times acts (replicate (length entries) tick) ∙ h.long_times;
            same =
                h.same
                ∙ ap (λ (l : List Timed). last_of end clock l state) split
                ∙ first_head clock end tick word rest state rises;
            same_acts = omega (arith, left);
            same_rows =
                h.same_rows
                ∙ ap (λ (l : List Timed). sets rows (21 * acts) (rows_from end clock l state)) split
                ∙ rw (first-log clock end tick word rest state rises, first_head clock end tick word rest state rises)
                (record-next rows acts entries (log_of (ran_from end (tick + 1) rest after)) (last_of end (tick + 1) rest after).settings);
            same_times =
                h.same_times
                ∙ ap (λ (l : List Timed). sets times acts (times_of clock (ran_from end clock l state))) split
                ∙ ap (sets times acts) (first-times clock end tick word rest state rises)
                ∙ sets-append (replicate (length entries) tick) (times_of (tick + 1) (ran_from end (tick + 1) rest after)) times acts
                ∙ ap (λ (n : ℕ). sets (sets times acts (replicate (length entries) tick)) (acts + n)
                (times_of (tick + 1) (ran_from end (tick + 1) rest after))) (length-replicate (length entries) tick);
          }

      pub running-next : {found : Head} {state' : Head} {acts' : ℕ} {rows' times' : List ℕ}
          → found ≡ ticks_of (get_or ticks i 0 - clock) state → state' ≡ next found (some (get_or words i 0))
          → Logged rows times acts (get_or ticks i 0) (moment_log (given found (get_or words i 0))) acts' rows' times'
          → Running words ticks count end head rows₀ times₀ rows' times' state' (get_or ticks i 0 + 1) acts' (i + 1)
      unfolding entries after
      running-next f n l = let e = rw f at l in rw (n, f, e.0, e.1.0, e.1.1) core

    -- all words have been given: the ticks that are left, and the settings at the end
    module _ (all : count ≤ i) where
      over : drop i list ≡ []
      over = drop_of_length-le list {i = i} (rw long all)

      pub running-last : {last : Head} → last ≡ ticks_of (end - clock) state → last ≡ head_after end 0 (buffered count end ticks words).list head
      running-last is =
          is
          ∙ sym (none-head (end - clock) clock state)
          ∙ sym (h.same ∙ ap (λ (l : List Timed). last_of end clock l state) over)

      pub running-acts : acts ≡ length (log_of (run_of head (buffered count end ticks words)))
      running-acts =
          let none = ap (λ (l : List Timed). log_of (ran_from end clock l state)) over ∙ none-log (end - clock) clock state in
          omega (arith, h.same_acts ∙ ap (λ (l : List Entry). acts + length l) none)

      pub running-rows : {last : Head} {rows' : List ℕ} → last ≡ ticks_of (end - clock) state → rows' ≡ sets rows (21 * acts) (end_row last.settings)
          → rows' ≡ sets rows₀ 0 (run_record head (buffered count end ticks words))
      running-rows {last} is laid =
          laid
          ∙ sym (h.same_rows
          ∙ ap (λ (l : List Timed). sets rows (21 * acts) (rows_from end clock l state)) over
          ∙ rw (none-log (end - clock) clock state, none-head (end - clock) clock state, ← is) (record-last rows acts last.settings))

      pub running-times : times ≡ sets times₀ 0 (run_times head (buffered count end ticks words))
      running-times =
          sym (h.same_times
          ∙ ap (λ (l : List Timed). sets times acts (times_of clock (ran_from end clock l state))) over
          ∙ ap (sets times acts) (none-times (end - clock) clock state))
