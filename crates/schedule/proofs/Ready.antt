-- Words to a head that is idle: when each kind may go, how many ticks pass before it, and that it goes at the earliest tick.
-- Assumes nothing.
use mathlib.Core.Path.{◌≡◌, refl, sym, ◌∙◌}
use mathlib.Core.Bool.{Bool, true, false, cond, not, ◌&&◌, ◌||◌, false≢true}
use Prim.Native.Nat.{ℕ, zero, suc, ◌-◌, ◌*◌, ◌<◌, ◌≤◌, max}
use native.Mathlib.Omega.{arith}
use borrow.Author.Tests.{le-ltb, ltb-false, not-true}
use native.Mathlib.Nat.{zero-sub}
use Rattle.words.proofs.Tests.{and_left, and_right}
use lib.Dec.{ltb, eqb}
use Rattle.words.specs.Kinds as kind
use Rattle.words.specs.Kinds.{allowed, most_steps}
use Rattle.words.specs.Codec.{word_of}
use Rattle.head.specs.Busy.{busy_ticks, is_busy, at_rest}
use Rattle.head.specs.Range.{in_range}
use Rattle.head.specs.Limits.{mirror_ticks, cover_step_ticks, hk_ticks, length_of}
use Rattle.head.specs.Flags.{time_ir}
use Rattle.head.specs.Apply.{after, begun_after}
use Rattle.head.specs.Word.{ignored, out_of_turn, on_word, on_decoded, answer_of}
use Rattle.head.specs.Tick.{tick_of, ticks_of}
use Rattle.head.specs.Ticks.{elapsed, motion_left}
use Rattle.head.specs.State.{none_begun}
use Rattle.head.specs.declared.state.Begun.{Begun}
use Rattle.head.specs.declared.state.Motion.{Motion}
use Rattle.head.specs.declared.state.Head.{Head}
use Rattle.head.specs.declared.word.Cause.TheVariants.{CoverMoving}
use Rattle.head.proofs.BusyTicks.{idle-none, none-idle, rest-none, none_rest, idle-answer, busy-after, busy-falls}
use Rattle.head.proofs.Bounds.{bounds}
use Rattle.head.proofs.Answers.{taken}
use Rattle.head.proofs.Keep.{word_keeps, ticks-keep}
use Rattle.head.proofs.Ticks.{ticks-elapsed, ticks-begun}
use Rattle.schedule.specs.Earliest.{is_taken, ready, delay_within, delay_of}
use Rattle.schedule.specs.Schedule.{readied, span_of, sent}
use Rattle.schedule.proofs.InTurn.{word-decoded, is-start, is-hk, count_after}

-- a head in range and idle, with so many words of a mirror set begun
pub record Idle (s : Head) (c : ℕ) : Type 0 where
  pub ranged : in_range s ≡ true
  pub idle : is_busy s ≡ false
  pub count : s.begun.count ≡ c

-- it stays so as ticks pass, and the motions fall
module _ (n : ℕ) (s : Head) (h : in_range s ≡ true) where
  pub ticks-motion : (ticks_of n s).motion ≡ motion_left n s.motion
  unfolding elapsed
  ticks-motion = rw (ticks-elapsed n s h)

  pub ticks-idle : busy_ticks s ≤ n → is_busy (ticks_of n s) ≡ false
  ticks-idle m = let fall = busy-falls s h n in none-idle (ticks_of n s) (omega arith)

pub idle-ticks : (n : ℕ) (s : Head) (c : ℕ) → Idle s c → Idle (ticks_of n s) c
idle-ticks n s c i =
    record {
      ranged = ticks-keep n s i.ranged;
      idle = ticks-idle n s i.ranged (let none = idle-none s i.idle in omega arith);
      count = rw (ticks-begun n s i.ranged) i.count;
    }

-- how many ticks pass before a word of kind k may go to an idle head: START waits until both motions are 0, COVER until the cover's is
unfoldable pub wait_of : ℕ → Motion → ℕ
wait_of k m = cond (eqb k kind.start) (max m.mirror m.cover) (cond (eqb k kind.cover) m.cover 0)

-- whether a word of kind k may go to a head that is idle
unfoldable pub free : ℕ → Head → Bool
free k s = not (eqb k kind.cover && ltb 0 s.motion.cover) && (not (eqb k kind.start) || at_rest s)

-- exactly when there is nothing to wait for
module _ (k : ℕ) (s : Head) where
  abbrev m : Motion
  m = s.motion

  pub free-now : free k s ≡ true → wait_of k m ≡ 0
  unfolding free wait_of
  free-now h = go (eqb k kind.start) (eqb k kind.cover) h
    where
      go : (x y : Bool) → (not (y && ltb 0 m.cover) && (not x || at_rest s)) ≡ true
          → cond x (max m.mirror m.cover) (cond y m.cover 0) ≡ 0
      go true y e =
          let (p, q) = rest-none s (and_right (not (y && ltb 0 m.cover)) (at_rest s) e) in omega arith
      go false true e =
          let l = ltb-false 0 m.cover (not-true (ltb 0 m.cover) (and_left (not (ltb 0 m.cover)) true e)) in omega arith
      go false false e = refl

  pub now-free : wait_of k m ≡ 0 → free k s ≡ true
  unfolding free wait_of
  now-free h = go (eqb k kind.start) (eqb k kind.cover) h
    where
      go : (x y : Bool) → cond x (max m.mirror m.cover) (cond y m.cover 0) ≡ 0
          → (not (y && ltb 0 m.cover) && (not x || at_rest s)) ≡ true
      go true true e = rw (le-ltb 0 m.cover (omega arith), none_rest s (omega arith) (omega arith))
      go true false e = rw (none_rest s (omega arith) (omega arith))
      go false true e = rw (le-ltb 0 m.cover (omega arith))
      go false false e = refl

module _ (k : ℕ) (m : Motion) where
  pub wait-falls : (n : ℕ) → wait_of k (motion_left n m) ≡ wait_of k m - n
  unfolding wait_of
  wait-falls n = go (eqb k kind.start) (eqb k kind.cover)
    where
      go : (x y : Bool)
          → cond x (max (m.mirror - n) (m.cover - n)) (cond y (m.cover - n) 0)
          ≡ cond x (max m.mirror m.cover) (cond y m.cover 0) - n
      go true y = omega arith
      go false true = refl
      go false false = sym (zero-sub n)

  pub wait-most : m.mirror ≤ mirror_ticks → m.cover ≤ cover_step_ticks * most_steps → wait_of k m ≤ cover_step_ticks * most_steps
  unfolding wait_of
  wait-most p q = go (eqb k kind.start) (eqb k kind.cover)
    where
      go : (x y : Bool) → cond x (max m.mirror m.cover) (cond y m.cover 0) ≤ cover_step_ticks * most_steps
      go true y = omega arith
      go false true = q
      go false false = omega arith

-- a word of kind k with data b, in turn after c words of a mirror set
module _ (k b c : ℕ) (fine : allowed k b ≡ true) (turn : out_of_turn c k ≡ false) where
  -- the head's answer: taken, unless it is COVER and the cover moves
  pub answer-idle : (s : Head) → Idle s c
      → answer_of s (word_of k b)
      ≡ cond (eqb k kind.cover && ltb 0 s.motion.cover) (ignored s (time_ir s.flags) s.begun CoverMoving) (taken s k b)
  unfolding on_decoded on_word
  answer-idle s i = rw (idle-answer s (word_of k b) i.ranged i.idle, word-decoded k b fine, i.count, turn)

  pub ready-free : (s : Head) → Idle s c → ready s (word_of k b) ≡ free k s
  unfolding ready free is_taken
  ready-free s i = rw (is-start k b fine, answer-idle s i) (go (eqb k kind.cover && ltb 0 s.motion.cover))
    where
      go : (x : Bool)
          → (is_taken (cond x (ignored s (time_ir s.flags) s.begun CoverMoving) (taken s k b)).outcome && (not (eqb k kind.start) || at_rest s))
          ≡ (not x && (not (eqb k kind.start) || at_rest s))
      go true = refl
      go false = refl

  -- at each tick before the wait is over it may not go
  pub not-before : (s : Head) → Idle s c → (n : ℕ) → n < wait_of k s.motion → ready (ticks_of n s) (word_of k b) ≡ false
  not-before s i n l = go (ready (ticks_of n s) (word_of k b)) refl
    where
      go : (x : Bool) → ready (ticks_of n s) (word_of k b) ≡ x → x ≡ false
      go false e = refl
      go true e =
          let is_free = sym (ready-free (ticks_of n s) (idle-ticks n s c i)) ∙ e in
          let z = wait-falls k s.motion n in
          let y : wait_of k (motion_left n s.motion) ≡ 0 = rw (ticks-motion n s i.ranged) at (free-now k (ticks_of n s) is_free) in
          absurd (omega arith)

  -- when it is over, it may
  pub ready-then : (s : Head) → Idle s c → ready (ticks_of (wait_of k s.motion) s) (word_of k b) ≡ true
  ready-then s i =
      let n = wait_of k s.motion in
      let z = wait-falls k s.motion n in
      let over : wait_of k (ticks_of n s).motion ≡ 0 = rw (ticks-motion n s i.ranged) (omega arith) in
      rw (ready-free (ticks_of n s) (idle-ticks n s c i)) (now-free k (ticks_of n s) over)

  -- so that the wait is the delay
  within : (n : ℕ) (s : Head) → Idle s c → wait_of k s.motion ≤ n → delay_within n s (word_of k b) ≡ wait_of k s.motion
  unfolding delay_within ticks_of
  within zero s i l = omega arith
  within (suc n) s i l = go (ready s (word_of k b)) refl (within n (tick_of s).head)
    where
      go : (x : Bool) → ready s (word_of k b) ≡ x
          → (Idle (tick_of s).head c → wait_of k (tick_of s).head.motion ≤ n
          → delay_within n (tick_of s).head (word_of k b) ≡ wait_of k (tick_of s).head.motion)
          → elim x [ true ↦ 0 | false ↦ suc (delay_within n (tick_of s).head (word_of k b)) ] ≡ wait_of k s.motion
      go true e rec = sym (free-now k s (sym (ready-free s i) ∙ e))
      go false e rec =
          let later = idle-ticks 1 s c i in
          let down : wait_of k (tick_of s).head.motion ≡ wait_of k s.motion - 1 =
          rw (ticks-motion 1 s i.ranged) (wait-falls k s.motion 1)
          in
          let some : wait_of k s.motion ≡ 0 → ⊥ = λ z. false≢true (sym e ∙ ready-free s i ∙ now-free k s z) in
          let r = rec later (omega arith) in
          omega arith

  pub delay-wait : (s : Head) → Idle s c → delay_of s (word_of k b) ≡ wait_of k s.motion
  unfolding delay_of
  delay-wait s i =
      let m = (bounds s i.ranged).motion in
      within (cover_step_ticks * most_steps) s i (wait-most k s.motion m.mirror m.cover)

  module _ (s : Head) (i : Idle s c) where
    pub readied-ticks : readied s (word_of k b) ≡ ticks_of (wait_of k s.motion) s
    unfolding readied
    readied-ticks = rw (delay-wait s i)

    pub readied-idle : Idle (readied s (word_of k b)) c
    readied-idle = rw readied-ticks (idle-ticks (wait_of k s.motion) s c i)

    pub readied-ready : ready (readied s (word_of k b)) (word_of k b) ≡ true
    readied-ready = rw readied-ticks (ready-then s i)

    -- at its tick the word is taken
    pub readied-taken : answer_of (readied s (word_of k b)) (word_of k b) ≡ taken (readied s (word_of k b)) k b
    unfolding free
    readied-taken =
        let t = readied s (word_of k b) in
        let moving = eqb k kind.cover && ltb 0 t.motion.cover in
        let rest = not (eqb k kind.start) || at_rest t in
        let f : free k t ≡ true = sym (ready-free t readied-idle) ∙ readied-ready in
        rw (answer-idle t readied-idle, not-true moving (and_left (not moving) rest f))

  -- the span covers what the word makes the head busy with
  busy-span : (s : Head) → is_busy s ≡ false → busy_ticks (after s k b) ≤ span_of s (word_of k b)
  unfolding span_of
  busy-span s idle =
      rw (busy-after s k b, is-start k b fine, is-hk k b fine) (go (eqb k kind.start) (eqb k kind.hk) (eqb k kind.stop))
    where
      go : (x y z : Bool)
          → cond x (length_of s.settings) (cond y hk_ticks (cond z 0 (busy_ticks s))) ≤ cond x (length_of s.settings) (cond y hk_ticks 1)
      go true y z = omega arith
      go false true z = omega arith
      go false false true = omega arith
      go false false false = let none = idle-none s idle in omega arith

  count-after : (s : Head) → s.begun.count ≡ c → (begun_after s k b).count ≡ count_after c k
  unfolding begun_after count_after
  count-after s e = rw (← e) (go (eqb k kind.sin_m) (eqb k kind.sin_l) (eqb k kind.cos_m) (eqb k kind.cos_l))
    where
      g : Begun
      g = s.begun

      go : (x y z u : Bool)
          → (cond x (record { count = 1; sinm = b; sinl = 0; cosm = 0 })
          (cond y (record { count = 2; sinm = g.sinm; sinl = b; cosm = 0 })
          (cond z (record { count = 3; sinm = g.sinm; sinl = g.sinl; cosm = b }) (cond u none_begun g)))).count
          ≡ cond x 1 (cond y 2 (cond z 3 (cond u 0 g.count)))
      go true y z u = refl
      go false true z u = refl
      go false false true u = refl
      go false false false true = refl
      go false false false false = refl

  module _ (s : Head) (i : Idle s c) where
    -- the head that has taken the word
    pub told-head : (answer_of (readied s (word_of k b)) (word_of k b)).head ≡ after (readied s (word_of k b)) k b
    told-head = rw (readied-taken s i)

    -- at the clock after the word the head is idle again
    pub sent-idle : Idle (sent s (word_of k b)) (count_after c k)
    unfolding sent after
    sent-idle =
        let t = readied s (word_of k b) in
        let n = span_of t (word_of k b) in
        let ranged : in_range (after t k b) ≡ true = rw told-head at (word_keeps t (readied-idle s i).ranged (word_of k b)) in
        rw told-head
        (record {
          ranged = ticks-keep n (after t k b) ranged;
          idle = ticks-idle n (after t k b) ranged (busy-span t (readied-idle s i).idle);
          count = rw (ticks-begun n (after t k b) ranged) (count-after t (readied-idle s i).count);
        })
