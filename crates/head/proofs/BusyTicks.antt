-- The head's busy ticks: none where it is idle, one less with each tick, an acquisition's length after START, three after HK. A head at
-- rest stays so.
-- Assumes nothing.
use mathlib.Core.Path.{◌≡◌, refl}
use mathlib.Core.Bool.{Bool, true, false, cond}
use Prim.Native.Nat.{ℕ, ◌-◌}
use native.Mathlib.Nat.{zero-sub}
use native.Mathlib.Omega.{arith}
use borrow.Author.Tests.{le-ltb, le-leb, leb-true, ltb-false, eqb-true, eq-eqb}
use lib.Dec.{leb, eqb, leb-zero}
use Rattle.words.specs.Codec.{decode_of}
use Rattle.words.specs.Kinds as kind
use Rattle.words.proofs.Tests.{and_left, and_right}
use Rattle.head.specs.Limits.{hk_ticks, length_of}
use Rattle.head.specs.State.{no_task, acquisition, housekeeping}
use Rattle.head.specs.Flags.{shown}
use Rattle.head.specs.Range.{in_range}
use Rattle.head.specs.Busy.{busy_ticks, is_busy, at_rest, rest_ticks}
use Rattle.head.specs.Apply.{after, work_after}
use Rattle.head.specs.Word.{on_decoded, answer_of}
use Rattle.head.specs.Tick.{task_of, passed, tick_of, ticks_of}
use Rattle.head.specs.Ticks.{ends_within, elapsed, work_left}
use Rattle.head.specs.declared.state.Work.{Work}
use Rattle.head.specs.declared.state.Head.{Head}
use Rattle.head.specs.declared.tick.Due.TheVariants.{Blocks}
use Rattle.head.proofs.Bounds.{Working, idle, acquiring, requesting, bounds}
use Rattle.head.proofs.Ticks.{ticks-elapsed}

-- no task ends where there is none
still-flags : (n b : ℕ) → b ≡ 0 → ends_within n b ≡ false
unfolding ends_within
still-flags n b e = rw e

still-work : (n t b : ℕ) → Working t b → b ≡ 0 → work_left n (record { task = t; busy = b }) ≡ record { task = t; busy = b }
unfolding work_left
still-work n t b idle e = rw (leb-zero n)
still-work n t b (acquiring m p q) e = absurd (omega arith)
still-work n t b (requesting m p q) e = absurd (omega arith)

module _ (s : Head) where
  idle-busy : is_busy s ≡ false → s.work.busy ≡ 0
  unfolding is_busy busy_ticks
  idle-busy e = let z = ltb-false 0 s.work.busy e in omega arith

  pub idle-none : is_busy s ≡ false → busy_ticks s ≡ 0
  unfolding busy_ticks
  idle-none e = idle-busy e

  pub none-idle : busy_ticks s ≡ 0 → is_busy s ≡ false
  unfolding is_busy busy_ticks
  none-idle e = le-ltb 0 s.work.busy (omega arith)

  -- at rest: both motions are 0
  pub rest-none : at_rest s ≡ true → (s.motion.mirror ≡ 0) × (s.motion.cover ≡ 0)
  unfolding at_rest
  rest-none e =
      let m = eqb s.motion.mirror 0 in
      let c = eqb s.motion.cover 0 in
      (eqb-true s.motion.mirror 0 (and_left m c e), eqb-true s.motion.cover 0 (and_right m c e))

  pub none_rest : s.motion.mirror ≡ 0 → s.motion.cover ≡ 0 → at_rest s ≡ true
  unfolding at_rest
  none_rest m c = rw (eq-eqb s.motion.mirror 0 m, eq-eqb s.motion.cover 0 c)

  -- heads that move alike are at rest alike
  pub rest-alike : (t : Head) → t.motion ≡ s.motion → at_rest t ≡ at_rest s
  unfolding at_rest
  rest-alike t e = rw e

  -- an idle head looks at what the word is
  pub idle-answer : (w : ℕ) → in_range s ≡ true → is_busy s ≡ false → answer_of s w ≡ on_decoded s (decode_of w)
  unfolding answer_of
  idle-answer w h e = rw (h, e)

  -- what a word of kind k leaves
  pub busy-after : (k b : ℕ)
      → busy_ticks (after s k b)
      ≡ cond (eqb k kind.start) (length_of s.settings) (cond (eqb k kind.hk) hk_ticks (cond (eqb k kind.stop) 0 (busy_ticks s)))
  unfolding after work_after busy_ticks
  busy-after k b = go (eqb k kind.start) (eqb k kind.hk) (eqb k kind.stop)
    where
      go : (x y z : Bool)
          → (cond x (record { task = acquisition; busy = length_of s.settings })
          (cond y (record { task = housekeeping; busy = hk_ticks }) (cond z (record { task = no_task; busy = 0 }) s.work))).busy
          ≡ cond x (length_of s.settings) (cond y hk_ticks (cond z 0 s.work.busy))
      go true y z = refl
      go false true z = refl
      go false false true = refl
      go false false false = refl

  module _ (h : in_range s ≡ true) where
    pub busy-falls : (n : ℕ) → busy_ticks (ticks_of n s) ≡ busy_ticks s - n
    unfolding busy_ticks elapsed work_left
    busy-falls n = rw (ticks-elapsed n s h) (go (leb s.work.busy n) refl)
      where
        go : (x : Bool) → leb s.work.busy n ≡ x
            → (cond {A = Work} x (record { task = no_task; busy = 0 }) (record { task = s.work.task; busy = s.work.busy - n })).busy ≡ s.work.busy - n
        go true e = let l = leb-true s.work.busy n e in omega arith
        go false e = refl

    -- at the last busy tick both blocks are due
    pub last-due : busy_ticks s ≡ 1 → (tick_of s).due ≡ Blocks (task_of s.work.task) (shown s.flags)
    unfolding busy_ticks tick_of passed
    last-due e = rw (h, eq-eqb s.work.busy 1 e)

    pub rest-stays : (n : ℕ) → at_rest s ≡ true → at_rest (ticks_of n s) ≡ true
    unfolding at_rest elapsed
    rest-stays n e =
        let (m, c) = rest-none e in rw (ticks-elapsed n s h, m, c, zero-sub n)

    -- an idle head at rest stays as it is
    pub ticks-still : (n : ℕ) → is_busy s ≡ false → at_rest s ≡ true → ticks_of n s ≡ s
    unfolding elapsed
    ticks-still n free rest =
        let (m, c) = rest-none rest in
        let w = still-work n s.work.task s.work.busy (bounds s h).work (idle-busy free) in
        rw (ticks-elapsed n s h, still-flags n s.work.busy (idle-busy free), w, m, c, zero-sub n)

-- once that many ticks have passed the head is idle and nothing moves
module _ (s : Head) (h : in_range s ≡ true) where
  pub rested-idle : is_busy (ticks_of (rest_ticks s) s) ≡ false
  unfolding rest_ticks busy_ticks is_busy elapsed work_left
  rested-idle = rw (ticks-elapsed (rest_ticks s) s h, le-leb s.work.busy (rest_ticks s) (omega arith))

  pub rested-still : at_rest (ticks_of (rest_ticks s) s) ≡ true
  unfolding rest_ticks busy_ticks elapsed
  rested-still =
      let m : s.motion.mirror - rest_ticks s ≡ 0 = omega arith in
      let c : s.motion.cover - rest_ticks s ≡ 0 = omega arith in
      rw (ticks-elapsed (rest_ticks s) s h) (none_rest (elapsed (rest_ticks s) s) m c)
