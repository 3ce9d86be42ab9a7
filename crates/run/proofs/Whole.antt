-- The whole run: word by word, each is given, taken and logged, and does what its kind says; from each START until the head is idle again
-- nothing moves and no setting changes.
-- Assumes nothing.
use mathlib.Core.Path.{◌≡◌, refl, sym, ◌∙◌, ap}
use mathlib.Core.Bool.{true, false, not, ◌||◌}
use mathlib.Core.List.{List, [], ◌∷◌, ◌++◌, map}
use mathlib.Core.Option.{none, some}
use Prim.Native.Nat.{ℕ, suc, ◌+◌, ◌-◌, ◌<◌}
use native.Mathlib.Nat.{sub_self, sub-zero}
use native.Mathlib.Omega.{arith}
use borrow.Author.Tests.{eqb-true, eq-eqb}
use lib.Dec.{eqb}
use Rattle.words.specs.Kinds as kind
use Rattle.words.specs.Kinds.{allowed}
use Rattle.words.specs.Codec.{word_of}
use Rattle.words.proofs.Tests.{and_right}
use Rattle.head.specs.Busy.{is_busy, at_rest}
use Rattle.head.specs.Range.{in_range}
use Rattle.head.specs.Apply.{after, act_of}
use Rattle.head.specs.Word.{out_of_turn, answer_of}
use Rattle.head.specs.Tick.{tick_of, ticks_of}
use Rattle.head.specs.declared.state.Head.{Head}
use Rattle.head.proofs.BusyTicks.{rest-alike}
use Rattle.head.proofs.Keep.{word_keeps, tick-keeps}
use Rattle.head.proofs.Ticks.{ticks-settings}
use Rattle.orders.specs.Words.{Item, items_of_all}
use Rattle.orders.specs.declared.order.Order.{Order}
use Rattle.schedule.specs.Earliest.{is_taken, start_word, ready, delay_of}
use Rattle.schedule.specs.Schedule.{Timed, readied, span_of, sent, schedule_from}
use Rattle.schedule.specs.Translate.{fit}
use Rattle.schedule.proofs.InTurn.{Step, word, wait, InTurn, empty, given, paused, is-start}
use Rattle.plan.proofs.Accepted.{AllFit}
use Rattle.schedule.proofs.Ready.{Idle, idle-ticks, readied-idle, readied-ready, readied-taken, told-head, sent-idle}
use Rattle.schedule.proofs.Plans.{fit-idle, span-bounds}
use Rattle.run.specs.Run.{word_at, Moment, answered, moments_of, head_after, entry_of, entries_of, moment_log, log_of}
use Rattle.run.specs.Claim.{given_in, Obeyed, AllObeyed, Resting, Held, StartsHeld, WholeRun}
use Rattle.run.proofs.Segments.{Silent, moments-add, head-add, quiet, quiet-moments, quiet-head, none_before, ends-later, word-moments, word-head}
use Rattle.run.proofs.Meaning.{Lasting, lasting_of, lasting_after, lasting-after, lasting-ticks, applied_to, logged_from, plan-meaning}
use Rattle.run.proofs.Quiet.{quiet-log, quiet-given, quiet-obeyed, quiet-starts, rest-ticks, quiet-held, held-idle}

-- what moments, and the head after them, did: the steps' settings and log, each word given and obeyed, each START held
pub record Done (ms : List Moment) (last : Head) (x : Lasting) (st : List Step) (ws : List ℕ) : Type 0 where
  pub lasting : lasting_of last ≡ applied_to x st
  pub log : log_of ms ≡ logged_from x st
  pub given : given_in ms ≡ ws
  pub obeyed : AllObeyed ms
  pub held : StartsHeld ms last
  pub idle : is_busy last ≡ false

done-quiet : (n : ℕ) (s : Head) (ms : List Moment) (last : Head) (x : Lasting) (st : List Step) (ws : List ℕ) → Done ms last x st ws
    → Done (quiet n s ++ ms) last x st ws
done-quiet n s ms last x st ws d =
    record {
      lasting = d.lasting;
      log = quiet-log ms n s ∙ d.log;
      given = quiet-given ms n s ∙ d.given;
      obeyed = quiet-obeyed ms n s d.obeyed;
      held = quiet-starts ms last n s d.held;
      idle = d.idle;
    }

done_none : (t : ℕ) (s : Head) → is_busy s ≡ false → Done (moments_of 0 t [] s) (head_after 0 t [] s) (lasting_of s) [] []
unfolding moments_of head_after applied_to logged_from log_of given_in
done_none t s idle = record { lasting = refl; log = refl; given = refl; obeyed = tt; held = tt; idle = idle }

done-paused : (n m t : ℕ) (l : List Timed) (s : Head) (st : List Step) (ws : List ℕ) → Silent l n t → in_range s ≡ true
    → Done (moments_of m (t + n) l (ticks_of n s)) (head_after m (t + n) l (ticks_of n s)) (lasting_of (ticks_of n s)) st ws
    → Done (moments_of (n + m) t l s) (head_after (n + m) t l s) (lasting_of s) (wait n ∷ st) ws
unfolding applied_to logged_from
done-paused n m t l s st ws silent h d =
    let ms = moments_of m (t + n) l (ticks_of n s) in
    let last = head_after m (t + n) l (ticks_of n s) in
    let later = rw (lasting-ticks n s h) at d in
    rw (moments-add l n m t s, head-add l n m t s, quiet-moments l n t s silent, quiet-head l n t s silent)
    (record {
      lasting = later.lasting;
      log = quiet-log ms n s ∙ later.log;
      given = quiet-given ms n s ∙ later.given;
      obeyed = quiet-obeyed ms n s later.obeyed;
      held = quiet-starts ms last n s later.held;
      idle = later.idle;
    })

-- START sets no register and starts no motion
module _ (s : Head) (k b : ℕ) (e : k ≡ kind.start) where
  start-settings : (after s k b).settings ≡ s.settings
  unfolding after
  start-settings = rw e

  start-motion : (after s k b).motion ≡ s.motion
  unfolding after
  start-motion = rw e

-- a word of kind k with data b, in turn, for a head that is idle
module _ (k b c : ℕ) (fine : allowed k b ≡ true) (turn : out_of_turn c k ≡ false) (s : Head) (i : Idle s c) where
  abbrev w : ℕ
  w = word_of k b

  -- the head that gets it
  abbrev t : Head
  t = readied s w

  abbrev moment : Moment
  moment = record { head = t; given = some w }

  ranged : in_range t ≡ true
  ranged = (readied-idle k b c fine turn s i).ranged

  settings-then : t.settings ≡ s.settings
  unfolding readied
  settings-then = ticks-settings (delay_of s w) s i.ranged

  obeyed-word : Obeyed moment
  unfolding is_taken after
  obeyed-word v e =
      let same : w ≡ v = cc in
      rw (← same, readied-taken k b c fine turn s i) (refl, refl)

  log-word : moment_log moment ≡ entry_of s.settings (act_of k b)
  unfolding moment_log entries_of
  log-word = rw (readied-taken k b c fine turn s i, settings-then)

  lasting-word : lasting_of (sent s w) ≡ lasting_after (lasting_of s) k b
  unfolding sent readied
  lasting-word =
      let told = told-head k b c fine turn s i in
      let n = span_of t w in
      let r : in_range (after t k b) ≡ true = rw told at (word_keeps t ranged w) in
      rw (told, lasting-ticks n (after t k b) r, lasting-after t k b, lasting-ticks (delay_of s w) s i.ranged)

  -- from a START on
  module _ (e : w ≡ start_word) where
    is-kind : k ≡ kind.start
    is-kind = eqb-true k kind.start (sym (is-start k b fine) ∙ eq-eqb w start_word e)

    rest-first : Resting t.settings t
    unfolding ready
    rest-first =
        let r = and_right (is_taken (answer_of t w).outcome) (not (eqb w start_word) || at_rest t) (readied-ready k b c fine turn s i) in
        (rw (eq-eqb w start_word e) at r, refl)

    rest-told : Resting t.settings (answer_of t w).head
    rest-told =
        let told = told-head k b c fine turn s i in
        let (rests, same) = rest-first in (
          ap at_rest told ∙ rest-alike t (after t k b) (start-motion t k b is-kind) ∙ rests,
          rw (told, start-settings t k b is-kind) same,
        )

    rest-sent : Resting t.settings (sent s w)
    unfolding sent
    rest-sent = rest-ticks t.settings (span_of t w) (answer_of t w).head (word_keeps t ranged w) rest-told

    held_word : (q : ℕ) (ms : List Moment) (last : Head) → Held t.settings ms last
        → Held t.settings (quiet q (tick_of (answer_of t w).head).head ++ ms) last
    unfolding ticks_of
    held_word q ms last h =
        let told = (answer_of t w).head in
        let r = word_keeps t ranged w in
        quiet-held t.settings ms last h q (tick_of told).head (tick-keeps told r) (rest-ticks t.settings 1 told r rest-told)

  log-step : (st : List Step)
      → logged_from (lasting_of s) (word k b ∷ st) ≡ entry_of s.settings (act_of k b) ++ logged_from (lasting_after (lasting_of s) k b) st
  unfolding logged_from lasting_of
  log-step st = refl

  abbrev told : Head
  told = (answer_of t w).head

  -- the word's moment, the ticks before and after it, and what follows
  done-word : (d q n u : ℕ) (xs : List Timed) (st : List Step) (ws : List ℕ)
      → Done (moments_of n u xs (sent s w)) (head_after n u xs (sent s w)) (lasting_of (sent s w)) st ws
      → Done (quiet d s ++ (moment ∷ (quiet q (tick_of told).head ++ moments_of n u xs (sent s w)))) (head_after n u xs (sent s w)) (lasting_of s)
      (word k b ∷ st) (w ∷ ws)
  unfolding log_of given_in applied_to answered
  done-word d q n u xs st ws h =
      let ms = moments_of n u xs (sent s w) in
      let last = head_after n u xs (sent s w) in
      let first = (tick_of told).head in
      let idle = (sent-idle k b c fine turn s i).idle in
      done-quiet d s (moment ∷ (quiet q first ++ ms)) last (lasting_of s) (word k b ∷ st) (w ∷ ws)
      (record {
        lasting = rw (← lasting-word) h.lasting;
        log = rw (log-word, quiet-log ms q first, h.log, lasting-word) (sym (log-step st));
        given = rw (quiet-given ms q first, h.given);
        obeyed = (obeyed-word, quiet-obeyed ms q first h.obeyed);
        held = (
          λ e.
              let same : w ≡ start_word = cc in
              (rest-first same, rest-told same, held_word same q ms last (held-idle t.settings n u xs (sent s w) idle (rest-sent same))),
          quiet-starts ms last q first h.held,
        );
        idle = h.idle;
      })

  -- in the run, from the clock u on
  module _ (u n : ℕ) (xs : List Timed) (later : (v : ℕ) → v < u + delay_of s w + span_of t w → word_at xs v ≡ none) where
    abbrev l : List Timed
    l = record { tick = u + delay_of s w; word = w } ∷ xs

    abbrev q : ℕ
    q = span_of t w - 1

    one_less : suc q ≡ span_of t w
    one_less = let m = span-bounds t w ranged in omega arith

    later-still : (v : ℕ) → v < u + delay_of s w + suc q → word_at xs v ≡ none
    later-still v h = later v (rw one_less at h)

    run-moments : moments_of (delay_of s w + (span_of t w + n)) u l s
        ≡ quiet (delay_of s w) s ++ (moment ∷ (quiet q (tick_of told).head ++ moments_of n (u + delay_of s w + span_of t w) xs (sent s w)))
    unfolding sent readied
    run-moments = rw one_less at (word-moments u (delay_of s w) q w xs s later-still n)

    pub run-head : head_after (delay_of s w + (span_of t w + n)) u l s ≡ head_after n (u + delay_of s w + span_of t w) xs (sent s w)
    unfolding sent readied
    run-head = rw one_less at (word-head u (delay_of s w) q w xs s later-still n)

    done-run : (st : List Step) (ws : List ℕ)
        → Done (moments_of n (u + delay_of s w + span_of t w) xs (sent s w)) (head_after n (u + delay_of s w + span_of t w) xs (sent s w))
        (lasting_of (sent s w))
        st
        ws
        → Done (moments_of (delay_of s w + (span_of t w + n)) u l s) (head_after (delay_of s w + (span_of t w + n)) u l s) (lasting_of s)
        (word k b ∷ st)
        (w ∷ ws)
    done-run st ws h = rw (run-moments, run-head) (done-word (delay_of s w) q n (u + delay_of s w + span_of t w) xs st ws h)

abbrev words_in : List Timed → List ℕ
words_in l = map (λ (x : Timed). x.word) l

-- the run of items from the clock t on
pub run-done : {c : ℕ} {is : List Item} {st : List Step} → InTurn c is st → (s : Head) → Idle s c → (t : ℕ)
    → Done (moments_of ((schedule_from s t is).end - t) t (schedule_from s t is).list s)
    (head_after ((schedule_from s t is).end - t) t (schedule_from s t is).list s)
    (lasting_of s)
    st
    (words_in (schedule_from s t is).list)
unfolding schedule_from
run-done empty s i t = rw (sub_self t) (done_none t s i.idle)
run-done {c} (given {is = is} {ms = st} k b fine turn r) s i t =
    let w = word_of k b in
    let u = t + delay_of s w + span_of (readied s w) w in
    let rest = schedule_from (sent s w) u is in
    let n = rest.end - u in
    let ends = ends-later is (sent s w) u in
    let whole : rest.end - t ≡ delay_of s w + (span_of (readied s w) w + n) = omega arith in
    rw whole
    (done-run k b c fine turn s i t n rest.list (none_before is (sent s w) u) st (words_in rest.list)
    (run-done r (sent s w) (sent-idle k b c fine turn s i) u))
run-done {c} (paused {is = is} {ms = st} n r) s i t =
    let rest = schedule_from (ticks_of n s) (t + n) is in
    let m = rest.end - (t + n) in
    let ends = ends-later is (ticks_of n s) (t + n) in
    let whole : rest.end - t ≡ n + m = omega arith in
    rw whole
    (done-paused n m t rest.list s st (words_in rest.list) (λ u p q. none_before is (ticks_of n s) (t + n) u q) i.ranged
    (run-done r (ticks_of n s) (idle-ticks n s c i) (t + n)))

-- Demand 3, for a head that is fit and orders that are known and fit
pub run-whole : (s : Head) (os : List Order) → fit s ≡ true → AllFit os
    → WholeRun s os (schedule_from s 0 (items_of_all os)).list (schedule_from s 0 (items_of_all os)).end
unfolding lasting_of
run-whole s os h all =
    let meaning = plan-meaning os all in
    let d = rw (sub-zero (schedule_from s 0 (items_of_all os)).end) at (run-done (meaning.turn s.begun.count) s (fit-idle s h) 0) in
    record {
      settings = ap (λ (x : Lasting). x.settings) d.lasting ∙ meaning.holds.settings (lasting_of s);
      log = d.log ∙ meaning.holds.log (lasting_of s);
      held = d.held;
      idle = d.idle;
      obeyed = d.obeyed;
      given = d.given;
    }
