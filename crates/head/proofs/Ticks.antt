-- Many ticks at once: `elapsed` is what tick after tick comes to, and ticks leave settings, latches and a begun set alone.
-- Assumes nothing.
use mathlib.Core.Path.{◌≡◌, refl, sym, ◌∙◌}
use mathlib.Core.Bool.{Bool, true, false, ◌&&◌, and-false}
use Prim.Native.Nat.{ℕ, zero, suc, ◌+◌, ◌-◌}
use native.Mathlib.Nat.{zero-add, suc-add, sub-zero}
use native.Mathlib.Omega.{arith}
use borrow.Author.Tests.{le-leb, lt-leb, eqb-true, eqb-false}
use lib.Dec.{leb, ltb, eqb, leb-zero}
use Rattle.head.specs.Range.{in_range}
use Rattle.head.specs.Tick.{passed, tick_of, ticks_of}
use Rattle.head.specs.Ticks.{ends_within, work_left, elapsed}
use Rattle.head.specs.declared.state.Head.{Head}
use Rattle.head.proofs.Bounds.{Working, idle, acquiring, requesting, bounds}
use Rattle.head.proofs.Keep.{tick-keeps}
use Rattle.head.proofs.Groups.{same-leb}

one_more : (n m : ℕ) → m - 1 - n ≡ m - suc n
one_more n m = omega arith

module _ (n : ℕ) (s : Head) where
  later : elapsed n (passed s).head ≡ elapsed (suc n) s
  unfolding elapsed passed ends_within work_left
  later = go (eqb s.work.busy 1) refl
    where
      b : ℕ
      b = s.work.busy

      go : (x : Bool) → eqb b 1 ≡ x → elapsed n (passed s).head ≡ elapsed (suc n) s
      go true e =
          rw (e, eqb-true b 1 e, leb-zero n, le-leb 1 (suc n) (omega arith), one_more n s.motion.mirror, one_more n s.motion.cover)
      go false e =
          let other = eqb-false b 1 e in
          rw (
            e,
            same-leb 1 (b - 1) 1 b (λ h. omega arith) (λ h. omega arith),
            same-leb (b - 1) n b (suc n) (λ h. omega arith) (λ h. omega arith),
            one_more n b,
            one_more n s.motion.mirror,
            one_more n s.motion.cover,
          )

-- a state in range, after no tick
none_left : (t b : ℕ) → Working t b → work_left 0 (record { task = t; busy = b }) ≡ record { task = t; busy = b }
unfolding work_left
none_left t b idle = refl
none_left t b (acquiring m p q) = rw (lt-leb b 0 p, sub-zero b)
none_left t b (requesting m p q) = rw (lt-leb b 0 p, sub-zero b)

at_once : (s : Head) → in_range s ≡ true → elapsed 0 s ≡ s
unfolding elapsed ends_within
at_once s h =
    rw (none_left s.work.task s.work.busy (bounds s h).work, sub-zero s.motion.mirror, sub-zero s.motion.cover, never s.work.busy)
  where
    never : (b : ℕ) → (ltb 0 b && leb b 0) ≡ false
    never zero = refl
    never (suc b) = rw (lt-leb (suc b) 0 (omega arith)) (and-false (ltb 0 (suc b)))

pub ticks-elapsed : (n : ℕ) (s : Head) → in_range s ≡ true → ticks_of n s ≡ elapsed n s
unfolding ticks_of tick_of
ticks-elapsed zero s h = sym (at_once s h)
ticks-elapsed (suc n) s h = rw h (ticks-elapsed n (passed s).head (rw h at (tick-keeps s h)) ∙ later n s)

pub ticks-add : (m n : ℕ) (s : Head) → ticks_of (m + n) s ≡ ticks_of n (ticks_of m s)
unfolding ticks_of
ticks-add zero n s = rw zero-add
ticks-add (suc m) n s = rw suc-add (ticks-add m n (tick_of s).head)

module _ (n : ℕ) (s : Head) (h : in_range s ≡ true) where
  pub ticks-settings : (ticks_of n s).settings ≡ s.settings
  unfolding elapsed
  ticks-settings = rw (ticks-elapsed n s h)

  pub ticks-latches : (ticks_of n s).latches ≡ s.latches
  unfolding elapsed
  ticks-latches = rw (ticks-elapsed n s h)

  pub ticks-begun : (ticks_of n s).begun ≡ s.begun
  unfolding elapsed
  ticks-begun = rw (ticks-elapsed n s h)

-- a state out of range stays as it is
pub ticks-out : (n : ℕ) (s : Head) → in_range s ≡ false → ticks_of n s ≡ s
unfolding ticks_of tick_of
ticks-out zero s h = refl
ticks-out (suc n) s h = rw h (ticks-out n s h)
