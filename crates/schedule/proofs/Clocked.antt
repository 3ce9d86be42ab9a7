-- The arithmetic clock gives the ticks and the end that the head's answers and ticks give.
-- Assumes nothing.
use mathlib.Core.Path.{◌≡◌, refl, ap}
use mathlib.Core.Bool.{Bool, true, false, cond, ◌&&◌, ◌||◌}
use mathlib.Core.List.{List, [], ◌∷◌, ◌++◌}
use Prim.Native.Nat.{ℕ, ◌+◌, ◌*◌, ◌-◌, ◌≤◌, ◌<◌, max}
use native.Mathlib.Nat.{mod-lt}
use native.Mathlib.Omega.{arith}
use lib.Dec.{eqb, lit<}
use Rattle.words.specs.Fields.{steps}
use Rattle.words.specs.Kinds as kind
use Rattle.words.specs.Kinds.{allowed, bits_of}
use Rattle.words.specs.Codec.{word_of}
use Rattle.head.specs.Range.{in_range}
use Rattle.head.specs.Limits.{mirror_ticks, cover_step_ticks, hk_ticks, step_ticks, extra_ticks, ccd_readout, full_readout, reduced_readout, readout_of, most_time, length_of, longest}
use Rattle.head.specs.Apply.{after, settings_after, motion_after}
use Rattle.head.specs.Word.{out_of_turn}
use Rattle.head.specs.Tick.{ticks_of}
use Rattle.head.specs.Ticks.{motion_left}
use Rattle.head.specs.declared.state.Head.{Head}
use Rattle.head.proofs.Bounds.{bounds}
use Rattle.head.proofs.Keep.{chosen, word_keeps}
use Rattle.head.proofs.Ticks.{ticks-settings}
use Rattle.orders.specs.Words.{Item, send, pause}
use Rattle.schedule.specs.Earliest.{delay_of}
use Rattle.schedule.specs.Schedule.{Timed, following, readied, span_of, sent, schedule_from}
use Rattle.schedule.specs.Clock.{clock_of, tick_for, length_at, span_at, clock_after, clock_paused, clocked_from, clock_through, kind_in, Near, longest_motion, longest_word}
use Rattle.schedule.specs.declared.clock.Clock.{Clock}
use Rattle.schedule.proofs.InTurn.{Step, InTurn, empty, given, paused, word-kind, word-bits, is-start, is-hk}
use Rattle.schedule.proofs.Ready.{Idle, wait_of, idle-ticks, ticks-motion, delay-wait, readied-ticks, readied-idle, told-head, sent-idle}

-- the clock says what the head does from its tick on
pub record At (c : Clock) (s : Head) : Type 0 where
  pub mirror : s.motion.mirror ≡ c.mirror - c.now
  pub cover : s.motion.cover ≡ c.cover - c.now
  pub mode : s.settings.mode ≡ c.mode
  pub irdelay : s.settings.irdelay ≡ c.irdelay
  pub irexpo : s.settings.irexpo ≡ c.irexpo
  pub ccddelay : s.settings.ccddelay ≡ c.ccddelay
  pub ccdexpo : s.settings.ccdexpo ≡ c.ccdexpo

pub at_first : (s : Head) (t : ℕ) → At (clock_of s t) s
unfolding clock_of
at_first s t =
    record {
      mirror = omega arith;
      cover = omega arith;
      mode = refl;
      irdelay = refl;
      irexpo = refl;
      ccddelay = refl;
      ccdexpo = refl;
    }

at-paused : (n : ℕ) (c : Clock) (s : Head) → in_range s ≡ true → At c s → At (clock_paused c n) (ticks_of n s)
unfolding clock_paused
at-paused n c s h a =
    rw (ticks-motion n s h, ticks-settings n s h)
    (record {
      mirror = omega (arith, a.mirror);
      cover = omega (arith, a.cover);
      mode = a.mode;
      irdelay = a.irdelay;
      irexpo = a.irexpo;
      ccddelay = a.ccddelay;
      ccdexpo = a.ccdexpo;
    })

module _ (c : Clock) (s : Head) (a : At c s) where
  tick_is : (k : ℕ) → c.now + wait_of k s.motion ≡ tick_for c k
  unfolding wait_of tick_for
  tick_is k = go (eqb k kind.start) (eqb k kind.cover)
    where
      go : (x y : Bool)
          → c.now + cond x (max s.motion.mirror s.motion.cover) (cond y s.motion.cover 0)
          ≡ cond x (max c.now (max c.mirror c.cover)) (cond y (max c.now c.cover) c.now)
      go true y = rw (a.mirror, a.cover) (omega arith)
      go false true = rw a.cover (omega arith)
      go false false = omega arith

  length-is : length_of s.settings ≡ length_at c
  unfolding length_of length_at
  length-is = rw (a.mode, a.irdelay, a.irexpo, a.ccddelay, a.ccdexpo)

-- a motion that a word starts anew, or does not
moves : (x : Bool) (v rest now d span old : ℕ) → old ≡ rest - now
    → cond x v (old - d) - span ≡ cond x (now + d + v) rest - (now + d + span)
moves true v rest now d span old e = omega arith
moves false v rest now d span old e = omega arith

-- a word of kind k with data b, in turn, to a head that is idle at the clock
module _ (k b n : ℕ) (fine : allowed k b ≡ true) (turn : out_of_turn n k ≡ false) (s : Head) (i : Idle s n) (c : Clock) (a : At c s) where
  abbrev w : ℕ
  w = word_of k b

  abbrev t : Head
  t = readied s w

  tick-of : c.now + delay_of s w ≡ tick_for c k
  tick-of = rw (delay-wait k b n fine turn s i) (tick_is c s a k)

  settings-then : t.settings ≡ s.settings
  settings-then = rw (readied-ticks k b n fine turn s i) (ticks-settings (wait_of k s.motion) s i.ranged)

  span-is : span_of t w ≡ span_at c k
  unfolding span_of span_at
  span-is = rw (is-start k b fine, is-hk k b fine, settings-then, length-is c s a)

  now-is : c.now + delay_of s w + span_of t w ≡ (clock_after c k b).now
  unfolding clock_after
  now-is = rw (tick-of, span-is)

  ranged : in_range (after t k b) ≡ true
  ranged = rw (told-head k b n fine turn s i) at (word_keeps t (readied-idle k b n fine turn s i).ranged w)

  settings-after : (sent s w).settings ≡ settings_after t k b
  unfolding sent after
  settings-after = rw (told-head k b n fine turn s i, ticks-settings (span_of t w) (after t k b) ranged)

  motion-then : t.motion ≡ motion_left (wait_of k s.motion) s.motion
  motion-then = rw (readied-ticks k b n fine turn s i) (ticks-motion (wait_of k s.motion) s i.ranged)

  motion-after : (sent s w).motion ≡ motion_left (span_at c k) (motion_after t k b)
  unfolding sent after
  motion-after = rw (told-head k b n fine turn s i, ticks-motion (span_of t w) (after t k b) ranged, span-is)

  at_after : At (clock_after c k b) (sent s w)
  unfolding clock_after settings_after motion_after
  at_after =
      record {
        mirror =
            rw (motion-after, motion-then, ← tick_is c s a k)
            (moves (eqb k kind.cos_l || (eqb k kind.switch && eqb b 0)) mirror_ticks c.mirror c.now (wait_of k s.motion) (span_at c k) s.motion.mirror
            a.mirror);
        cover =
            rw (motion-after, motion-then, ← tick_is c s a k)
            (moves (eqb k kind.cover) (cover_step_ticks * steps b) c.cover c.now (wait_of k s.motion) (span_at c k) s.motion.cover a.cover);
        mode = rw (settings-after, settings-then, a.mode);
        irdelay = rw (settings-after, settings-then, a.irdelay);
        irexpo = rw (settings-after, settings-then, a.irexpo);
        ccddelay = rw (settings-after, settings-then, a.ccddelay);
        ccdexpo = rw (settings-after, settings-then, a.ccdexpo);
      }

pub clocked : {n : ℕ} {is : List Item} {ms : List Step} → InTurn n is ms → (s : Head) → Idle s n → (c : Clock) → At c s
    → schedule_from s c.now is ≡ clocked_from c is
unfolding schedule_from clocked_from clock_paused
clocked empty s i c a = refl
clocked {n} (given {is = is} k b fine turn r) s i c a =
    rw (word-kind k b fine, word-bits k b fine, now-is k b n fine turn s i c a, tick-of k b n fine turn s i c a)
    (ap (following (tick_for c k) (word_of k b))
    (clocked r (sent s (word_of k b)) (sent-idle k b n fine turn s i) (clock_after c k b) (at_after k b n fine turn s i c a)))
clocked {n} (paused {is = is} m r) s i c a = clocked r (ticks_of m s) (idle-ticks m s n i) (clock_paused c m) (at-paused m c s i.ranged a)

pub near_first : (s : Head) (t : ℕ) → in_range s ≡ true → Near t (clock_of s t)
unfolding clock_of
near_first s t h =
    let r = (bounds s h).settings in
    let m = (bounds s h).motion in
    record {
      now = omega arith;
      mirror = omega arith;
      cover = omega arith;
      irdelay = r.irdelay;
      irexpo = r.irexpo;
      ccddelay = r.ccddelay;
      ccdexpo = r.ccdexpo;
    }

pub near-more : (n m : ℕ) (c : Clock) → n ≤ m → Near n c → Near m c
near-more n m c l h = omega arith

pub near-paused : (n m : ℕ) (c : Clock) → Near n c → Near (n + m) (clock_paused c m)
unfolding clock_paused
near-paused n m c h = omega arith

module _ (n : ℕ) (c : Clock) (h : Near n c) where
  pub tick-near : (k : ℕ) → tick_for c k ≤ n + longest_motion
  unfolding tick_for
  tick-near k = go (eqb k kind.start) (eqb k kind.cover)
    where
      go : (x y : Bool) → cond x (max c.now (max c.mirror c.cover)) (cond y (max c.now c.cover) c.now) ≤ n + longest_motion
      go true y = omega arith
      go false true = omega arith
      go false false = omega arith

  pub length_most : length_at c ≤ longest
  unfolding length_at readout_of
  length_most = go (eqb c.mode 0)
    where
      go : (x : Bool)
          → extra_ticks + max (step_ticks * (c.ccddelay + c.ccdexpo) + ccd_readout) (step_ticks * (c.irdelay + c.irexpo) + cond x full_readout reduced_readout) ≤ longest
      go true = omega arith
      go false = omega arith

  span-near : (k : ℕ) → span_at c k ≤ longest
  unfolding span_at
  span-near k = go (eqb k kind.start) (eqb k kind.hk)
    where
      go : (x y : Bool) → cond x (length_at c) (cond y hk_ticks 1) ≤ longest
      go true y = length_most
      go false true = omega arith
      go false false = omega arith

  pub near-after : (k b : ℕ) → b < 1024 → Near (n + longest_word) (clock_after c k b)
  unfolding clock_after
  near-after k b ten =
      let t = tick-near k in
      let l = span-near k in
      let steps-most = mod-lt b {m = 128} (lit< tt) in
      record {
        now = omega arith;
        mirror =
            chosen (eqb k kind.cos_l || (eqb k kind.switch && eqb b 0)) (tick_for c k + mirror_ticks) c.mirror (n + longest_word + longest_motion) (λ e. omega arith)
            (omega arith);
        cover = chosen (eqb k kind.cover) (tick_for c k + cover_step_ticks * steps b) c.cover (n + longest_word + longest_motion) (λ e. omega arith) (omega arith);
        irdelay = chosen (eqb k kind.ir_delay) b c.irdelay most_time (λ e. omega arith) h.irdelay;
        irexpo = chosen (eqb k kind.ir_expo) b c.irexpo most_time (λ e. omega arith) h.irexpo;
        ccddelay = chosen (eqb k kind.ccd_delay) b c.ccddelay most_time (λ e. omega arith) h.ccddelay;
        ccdexpo = chosen (eqb k kind.ccd_expo) b c.ccdexpo most_time (λ e. omega arith) h.ccdexpo;
      }

-- items, and then others
pub clocked-list : (c : Clock) (is js : List Item)
    → (clocked_from c (is ++ js)).list ≡ (clocked_from c is).list ++ (clocked_from (clock_through c is) js).list
unfolding clocked_from clock_through
clocked-list c [] js = refl
clocked-list c (send w ∷ is) js =
    ap (λ (l : List Timed). record { tick = tick_for c (kind_in w); word = w } ∷ l) (clocked-list (clock_after c (kind_in w) (bits_of w)) is js)
clocked-list c (pause n ∷ is) js = clocked-list (clock_paused c n) is js

pub clocked-end : (c : Clock) (is js : List Item) → (clocked_from c (is ++ js)).end ≡ (clocked_from (clock_through c is) js).end
unfolding clocked_from clock_through
clocked-end c [] js = refl
clocked-end c (send w ∷ is) js = clocked-end (clock_after c (kind_in w) (bits_of w)) is js
clocked-end c (pause n ∷ is) js = clocked-end (clock_paused c n) is js
