-- What a tick makes of the operator's view: the view that it finds, and whether the head is busy after it, decide.
-- Assumes nothing.
use mathlib.Core.Path.{◌≡◌, refl, ap, ◌∙◌}
use mathlib.Core.Bool.{Bool, true, false, cond, not, ◌&&◌}
use Rattle.std.specs.Prelude.{None, Some}
use Prim.Native.Nat.{ℕ, ◌-◌}
use native.Mathlib.Omega.{arith}
use borrow.Author.Tests.{eqb-true, eqb-false, lt-ltb}
use lib.Dec.{eqb, ltb}
use Rattle.words.specs.Fields.{on}
use Rattle.words.specs.Kinds as kind
use Rattle.head.specs.State.{no_task}
use Rattle.head.specs.Range.{in_range}
use Rattle.head.specs.Busy.{busy_ticks, is_busy}
use Rattle.head.specs.Tick.{task_of, passed, tick_of}
use Rattle.head.specs.declared.state.Head.{Head}
use Rattle.head.proofs.Bounds.{Working, idle, acquiring, requesting, bounds}
use Rattle.head.proofs.Keep.{word_keeps}
use Rattle.status.specs.Status.{is_set, vis_flag_word}
use Rattle.blocks.specs.Ccd.{ccd_shown}
use Rattle.blocks.specs.declared.ccd.CcdBits.{CcdBits}
use Rattle.due.specs.Due.{acquisition}
use Rattle.operators.specs.Passing.{passes, passed_on}
use Rattle.observation.specs.Run.{Given, nothing, by_ccd, by_infrared, by_controller, between}
use Rattle.observation.specs.Observation.{flag_word_due}
use Rattle.observation.proofs.Words.{passed_if}
use Rattle.observation.proofs.View.{view, marking, ends_in, view_ticked, flag_word_in}

-- whatever is given, the head stays in range
passed-keeps : (s : Head) → in_range s ≡ true → (g w : ℕ) → in_range (passed_on s g w).head ≡ true
unfolding passed_on
passed-keeps s h g w = rw h (go (passes s g w))
  where
    go : (x : Bool) → in_range (passed_if x s w).head ≡ true
    go true = word_keeps s h w
    go false = h

pub between-keeps : (s : Head) → in_range s ≡ true → (g : Given) → in_range (between s g) ≡ true
unfolding between
between-keeps s h nothing = h
between-keeps s h (by_ccd w) = passed-keeps s h kind.ccd w
between-keeps s h (by_infrared w) = passed-keeps s h kind.infrared w
between-keeps s h (by_controller w) = word_keeps s h w

-- the task ends at this tick where the head is busy, and not after it
ends : (t n : ℕ) → Working t n → (x : Bool) → eqb n 1 ≡ x → x ≡ (not (eqb t no_task) && not (ltb 0 (cond x 0 (n - 1))))
ends t n idle true e = absurd (omega (arith, eqb-true n 1 e))
ends t n idle false e = refl
ends t n (acquiring m p q) true e = refl
ends t n (acquiring m p q) false e = rw (lt-ltb 0 (n - 1) (omega (arith, eqb-false n 1 e)))
ends t n (requesting m p q) true e = refl
ends t n (requesting m p q) false e = rw (lt-ltb 0 (n - 1) (omega (arith, eqb-false n 1 e)))

module _ (s : Head) (h : in_range s ≡ true) where
  -- the ticks that are left
  left : (x : Bool) → eqb s.work.busy 1 ≡ x → (tick_of s).head.work.busy ≡ cond x 0 (s.work.busy - 1)
  unfolding tick_of passed
  left true e = rw (h, e)
  left false e = rw (h, e)

  ends-in : eqb s.work.busy 1 ≡ ends_in (view s) (is_busy (tick_of s).head)
  unfolding is_busy busy_ticks
  ends-in = go (eqb s.work.busy 1) refl
    where
      go : (x : Bool) → eqb s.work.busy 1 ≡ x → eqb s.work.busy 1 ≡ ends_in (view s) (ltb 0 (tick_of s).head.work.busy)
      go x e = e ∙ ends s.work.task s.work.busy (bounds s h).work x e ∙ rw (left x e)

  ticked-view : (x : Bool) → eqb s.work.busy 1 ≡ x → view (tick_of s).head ≡ cond x (marking (view s) 0 0 no_task) (view s)
  unfolding tick_of passed
  ticked-view true e = rw (h, e)
  ticked-view false e = rw (h, e)

  pub tick-view : view (tick_of s).head ≡ view_ticked (view s) (is_busy (tick_of s).head)
  unfolding view_ticked
  tick-view = ticked-view (eqb s.work.busy 1) refl ∙ ap (λ (x : Bool). cond x (marking (view s) 0 0 no_task) (view s)) ends-in

  -- the flag word of a block that is due
  module _ (bits : CcdBits) where
    shown_word : ℕ
    shown_word =
        vis_flag_word
        (record {
          acquired = acquisition (task_of s.work.task);
          time = eqb s.flags.vistime 1;
          word = eqb s.flags.visword 1;
          latchup = bits.latchup;
          lampon = is_set (on s.settings.ccdlamp);
        })

    ticked-word : (x : Bool) → eqb s.work.busy 1 ≡ x → flag_word_due (tick_of s).head (tick_of s).due bits ≡ cond x (Some shown_word) None
    unfolding tick_of passed flag_word_due ccd_shown shown_word
    ticked-word true e = rw (h, e)
    ticked-word false e = rw (h, e)

    pub flag-word-in : flag_word_due (tick_of s).head (tick_of s).due bits ≡ flag_word_in (view s) (is_busy (tick_of s).head) bits
    unfolding flag_word_in shown_word
    flag-word-in = ticked-word (eqb s.work.busy 1) refl ∙ ap (λ (x : Bool). cond x (Some shown_word) None) ends-in
