-- A state is in range exactly when its numbers lie within these bounds.
-- Assumes nothing.
use mathlib.Core.Path.{◌≡◌, refl}
use mathlib.Core.Bool.{Bool, true, false, cond, not, ◌&&◌, ◌||◌}
use mathlib.Core.List.{List, [], ◌∷◌}
use Prim.Native.Nat.{ℕ, ◌+◌, ◌*◌, ◌<◌, ◌≤◌}
use native.Mathlib.Omega.{arith}
use borrow.Author.Tests.{leb-true, leb-false, le-leb, lt-leb, eqb-true}
use lib.Dec.{leb, eqb, leb-zero}
use mir.Syntax.{w16}
use mir.Val.{Fits}
use Rattle.words.specs.Kinds as kind
use Rattle.words.specs.Fields.{steps}
use Rattle.words.specs.Kinds.{rows, least, greatest, allowed, most_steps}
use Rattle.words.proofs.Tests.{and_left, and_right}
use Rattle.head.specs.Limits.{hk_ticks, mirror_ticks, cover_step_ticks, shortest, longest, length_by, length_of, full_readout, reduced_readout, readout_of}
use Rattle.head.specs.State.{power_on, no_task, acquisition, housekeeping}
use Rattle.head.specs.Range.{all_pass, register_tests, latch_tests, flag_tests, motion_tests, begun_tests, place, work_in_range, in_range}
use Rattle.head.specs.declared.state.Settings.{Settings}
use Rattle.head.specs.declared.state.Latches.{Latches}
use Rattle.head.specs.declared.state.FlagBits.{FlagBits}
use Rattle.head.specs.declared.state.Motion.{Motion}
use Rattle.head.specs.declared.state.Begun.{Begun}
use Rattle.head.specs.declared.state.Head.{Head}

-- each test of a list holds
abbrev pub Each : List Bool → Type 0
Each [] = Unit {0}
Each (b ∷ bs) = (b ≡ true) × Each bs

both : (a b : Bool) → a ≡ true → b ≡ true → (a && b) ≡ true
both a b p q = rw (p, q)

first : (a : Bool) (bs : List Bool) → all_pass a bs ≡ true → a ≡ true
unfolding all_pass
first a [] h = h
first a (b ∷ bs) h = and_left a b (first (a && b) bs h)

each_from : (a : Bool) (bs : List Bool) → all_pass a bs ≡ true → Each bs
unfolding all_pass
each_from a [] h = tt
each_from a (b ∷ bs) h = (and_right a b (first (a && b) bs h), each_from (a && b) bs h)

pub each : (bs : List Bool) → all_pass true bs ≡ true → Each bs
each bs h = each_from true bs h

all_from : (a : Bool) (bs : List Bool) → a ≡ true → Each bs → all_pass a bs ≡ true
unfolding all_pass
all_from a [] p h = p
all_from a (b ∷ bs) p h = all_from (a && b) bs (both a b p h.0) h.1

pub all_of : (bs : List Bool) → Each bs → all_pass true bs ≡ true
all_of bs h = all_from true bs refl h

pub record RegisterBounds (r : Settings) : Type 0 where
  pub detector : r.detector ≤ 1
  pub mode : r.mode ≤ 1
  pub vdetcom : r.vdetcom ≤ 4095
  pub vdetadj : r.vdetadj ≤ 4095
  pub irdelay : r.irdelay ≤ 1023
  pub irexpo : r.irexpo ≤ 1023
  pub least_ccddelay : 5 ≤ r.ccddelay
  pub ccddelay : r.ccddelay ≤ 1023
  pub ccdexpo : r.ccdexpo ≤ 1023
  pub x1 : r.x1 ≤ 1023
  pub y1 : r.y1 ≤ 511
  pub x2 : r.x2 ≤ 1023
  pub y2 : r.y2 ≤ 511
  pub ccdlamp : r.ccdlamp ≤ 7
  pub irlamp : r.irlamp ≤ 31
  pub shutter : r.shutter ≤ 31
  pub annealing : r.annealing ≤ 127
  pub sine : r.sine ≤ 8191
  pub cosine : r.cosine ≤ 4095
  pub switch : r.switch ≤ 1
  pub direction : r.direction ≤ 1

pub registers : (r : Settings) → all_pass true (register_tests r) ≡ true → RegisterBounds r
unfolding register_tests greatest least rows
registers r h = let e = each (register_tests r) h in omega (arith, leb-true)

pub registers-back : (r : Settings) → RegisterBounds r → all_pass true (register_tests r) ≡ true
unfolding register_tests greatest least rows
registers-back r h = all_of (register_tests r) (omega (arith, le-leb))

pub record LatchBounds (l : Latches) : Type 0 where
  pub vdetcom : l.vdetcom ≤ 15
  pub vdetadj : l.vdetadj ≤ 15

pub latched : (l : Latches) → all_pass true (latch_tests l) ≡ true → LatchBounds l
unfolding latch_tests greatest rows
latched l h = let e = each (latch_tests l) h in omega (arith, leb-true)

pub latched-back : (l : Latches) → LatchBounds l → all_pass true (latch_tests l) ≡ true
unfolding latch_tests greatest rows
latched-back l h = all_of (latch_tests l) (omega (arith, le-leb))

pub record FlagBounds (f : FlagBits) : Type 0 where
  pub irtime : f.irtime ≤ 1
  pub irword : f.irword ≤ 1
  pub scan : f.scan ≤ 1
  pub vistime : f.vistime ≤ 1
  pub visword : f.visword ≤ 1

pub flagged : (f : FlagBits) → all_pass true (flag_tests f) ≡ true → FlagBounds f
unfolding flag_tests
flagged f h = let e = each (flag_tests f) h in omega (arith, leb-true)

pub flagged_back : (f : FlagBits) → FlagBounds f → all_pass true (flag_tests f) ≡ true
unfolding flag_tests
flagged_back f h = all_of (flag_tests f) (omega (arith, le-leb))

pub record MotionBounds (m : Motion) : Type 0 where
  pub mirror : m.mirror ≤ mirror_ticks
  pub cover : m.cover ≤ cover_step_ticks * most_steps

pub motions : (m : Motion) → all_pass true (motion_tests m) ≡ true → MotionBounds m
unfolding motion_tests
motions m h = let e = each (motion_tests m) h in omega (arith, leb-true)

pub motions-back : (m : Motion) → MotionBounds m → all_pass true (motion_tests m) ≡ true
unfolding motion_tests
motions-back m h = all_of (motion_tests m) (omega (arith, le-leb))

-- allowed data lie from the least to the greatest of their kind, and a cover word's steps are at most 81
module _ (k d : ℕ) (h : allowed k d ≡ true) where
  within : (leb (least k) d && leb d (greatest k)) ≡ true
  unfolding allowed
  within = and_left (leb (least k) d && leb d (greatest k)) (not (eqb k kind.cover) || leb (steps d) most_steps) h

  pub allowed-least : least k ≤ d
  allowed-least = leb-true (least k) d (and_left (leb (least k) d) (leb d (greatest k)) within)

  pub allowed-most : d ≤ greatest k
  allowed-most = leb-true d (greatest k) (and_right (leb (least k) d) (leb d (greatest k)) within)

pub allowed-steps : (d : ℕ) → allowed kind.cover d ≡ true → steps d ≤ most_steps
unfolding allowed
allowed-steps d h =
    leb-true (steps d) most_steps (and_right (leb (least kind.cover) d && leb d (greatest kind.cover)) (leb (steps d) most_steps) h)

-- a place of a begun set, of a kind whose data start at 0
module _ (count n k v : ℕ) where
  pub place-most : place count n k v ≡ true → v ≤ greatest k
  unfolding place
  place-most h = go (leb n count) refl
    where
      go : (b : Bool) → leb n count ≡ b → v ≤ greatest k
      go true e = allowed-most k v (rw e at h)
      go false e = let z = eqb-true v 0 (rw e at h) in omega arith

  pub place-empty : place count n k v ≡ true → count < n → v ≡ 0
  unfolding place
  place-empty h l = eqb-true v 0 (rw (lt-leb n count l) at h)

  pub place_of : least k ≡ 0 → eqb k kind.cover ≡ false → v ≤ greatest k → (count < n → v ≡ 0) → place count n k v ≡ true
  unfolding place allowed
  place_of z u m empty = go (leb n count) refl
    where
      go : (b : Bool) → leb n count ≡ b → place count n k v ≡ true
      go true e = rw (e, z, u, leb-zero v, le-leb v (greatest k) m)
      go false e = rw (e, empty (leb-false n count e))

pub record BegunBounds (g : Begun) : Type 0 where
  pub count : g.count ≤ 3
  pub sinm : g.sinm ≤ 31
  pub sinl : g.sinl ≤ 255
  pub cosm : g.cosm ≤ 15
  pub no_sinm : g.count < 1 → g.sinm ≡ 0
  pub no_sinl : g.count < 2 → g.sinl ≡ 0
  pub no_cosm : g.count < 3 → g.cosm ≡ 0

pub begun : (g : Begun) → all_pass true (begun_tests g) ≡ true → BegunBounds g
unfolding begun_tests greatest rows
begun g h =
    let e = each (begun_tests g) h in
    record {
      count = omega (arith, leb-true);
      sinm = place-most g.count 1 kind.sin_m g.sinm e.1.0;
      sinl = place-most g.count 2 kind.sin_l g.sinl e.1.1.0;
      cosm = place-most g.count 3 kind.cos_m g.cosm e.1.1.1.0;
      no_sinm = place-empty g.count 1 kind.sin_m g.sinm e.1.0;
      no_sinl = place-empty g.count 2 kind.sin_l g.sinl e.1.1.0;
      no_cosm = place-empty g.count 3 kind.cos_m g.cosm e.1.1.1.0;
    }

pub begun-back : (g : Begun) → BegunBounds g → all_pass true (begun_tests g) ≡ true
unfolding begun_tests greatest least rows
begun-back g h =
    all_of (begun_tests g) (
      le-leb g.count 3 h.count,
      (
        place_of g.count 1 kind.sin_m g.sinm refl refl h.sinm h.no_sinm,
        (
          place_of g.count 2 kind.sin_l g.sinl refl refl h.sinl h.no_sinl,
          (place_of g.count 3 kind.cos_m g.cosm refl refl h.cosm h.no_cosm, tt),
        ),
      ),
    )

-- what the head is doing, and for how many ticks yet
pub data Working : ℕ → ℕ → Type 0 where
  idle : Working no_task 0
  acquiring : (n : ℕ) → 1 ≤ n → n ≤ longest → Working acquisition n
  requesting : (n : ℕ) → 1 ≤ n → n ≤ hk_ticks → Working housekeeping n

pub working : (t n : ℕ) → work_in_range t n ≡ true → Working t n
unfolding work_in_range
working t n h = go (eqb t no_task) refl (eqb t acquisition) refl
  where
    last : Bool
    last = eqb t housekeeping

    go : (x : Bool) → eqb t no_task ≡ x → (y : Bool) → eqb t acquisition ≡ y → Working t n
    go true p y q = rw (eqb-true t no_task p, eqb-true n 0 (rw p at h)) idle
    go false p true q =
        let both : (leb 1 n && leb n longest) ≡ true = rw (p, q) at h in
        rw (eqb-true t acquisition q)
        (acquiring n (leb-true 1 n (and_left (leb 1 n) (leb n longest) both)) (leb-true n longest (and_right (leb 1 n) (leb n longest) both)))
    go false p false q =
        let all : (last && (leb 1 n && leb n hk_ticks)) ≡ true = rw (p, q) at h in
        let both = and_right last (leb 1 n && leb n hk_ticks) all in
        rw (eqb-true t housekeeping (and_left last (leb 1 n && leb n hk_ticks) all))
        (requesting n (leb-true 1 n (and_left (leb 1 n) (leb n hk_ticks) both)) (leb-true n hk_ticks (and_right (leb 1 n) (leb n hk_ticks) both)))

pub working-back : (t n : ℕ) → Working t n → work_in_range t n ≡ true
unfolding work_in_range
working-back t n idle = refl
working-back t n (acquiring m p q) = rw (le-leb 1 n p, le-leb n longest q)
working-back t n (requesting m p q) = rw (le-leb 1 n p, le-leb n hk_ticks q)

pub working-most : (t n : ℕ) → Working t n → n ≤ longest
working-most t n idle = omega arith
working-most t n (acquiring m p q) = q
working-most t n (requesting m p q) = omega arith

pub record Bounds (s : Head) : Type 0 where
  pub settings : RegisterBounds s.settings
  pub latches : LatchBounds s.latches
  pub flags : FlagBounds s.flags
  pub motion : MotionBounds s.motion
  pub begun : BegunBounds s.begun
  pub work : Working s.work.task s.work.busy
  pub busy : s.work.busy ≤ longest

module _ (s : Head) where
  pub bounds : in_range s ≡ true → Bounds s
  unfolding in_range
  bounds h =
      let a = all_pass true (register_tests s.settings) in
      let b = all_pass true (latch_tests s.latches) in
      let f = all_pass true (flag_tests s.flags) in
      let c = all_pass true (motion_tests s.motion) in
      let d = all_pass true (begun_tests s.begun) in
      let e = work_in_range s.work.task s.work.busy in
      let abfcd = and_left (a && b && f && c && d) e h in
      let abfc = and_left (a && b && f && c) d abfcd in
      let abf = and_left (a && b && f) c abfc in
      let ab = and_left (a && b) f abf in
      let w = working s.work.task s.work.busy (and_right (a && b && f && c && d) e h) in
      record {
        settings = registers s.settings (and_left a b ab);
        latches = latched s.latches (and_right a b ab);
        flags = flagged s.flags (and_right (a && b) f abf);
        motion = motions s.motion (and_right (a && b && f) c abfc);
        begun = begun s.begun (and_right (a && b && f && c) d abfcd);
        work = w;
        busy = working-most s.work.task s.work.busy w;
      }

  pub in-range : Bounds s → in_range s ≡ true
  unfolding in_range
  in-range h =
      rw (
        registers-back s.settings h.settings,
        latched-back s.latches h.latches,
        flagged_back s.flags h.flags,
        motions-back s.motion h.motion,
        begun-back s.begun h.begun,
      )
      (working-back s.work.task s.work.busy h.work)

pub power-on-range : in_range power_on ≡ true
unfolding in_range all_pass register_tests latch_tests flag_tests motion_tests begun_tests place work_in_range least greatest rows allowed
power-on-range = refl

-- an acquisition's length lies in 156..4238
module _ (r : Settings) where
  pub readout-bounds : (reduced_readout ≤ readout_of r.mode) × (readout_of r.mode ≤ full_readout)
  unfolding readout_of
  readout-bounds = go (eqb r.mode 0)
    where
      go : (b : Bool) → (reduced_readout ≤ cond b full_readout reduced_readout) × (cond b full_readout reduced_readout ≤ full_readout)
      go true = omega arith
      go false = omega arith

  pub length-bounds : RegisterBounds r → (shortest ≤ length_of r) × (length_of r ≤ longest)
  unfolding length_of
  length-bounds h = let b = readout-bounds in omega arith

-- both ends are reached: all times at their least with the reduced window, and all at their largest
pub shortest-reached : length_by 1 (least kind.ir_delay) (least kind.ir_expo) (least kind.ccd_delay) (least kind.ccd_expo) ≡ shortest
unfolding length_by readout_of least rows
shortest-reached = refl

pub longest-reached : length_by 0 (greatest kind.ir_delay) (greatest kind.ir_expo) (greatest kind.ccd_delay) (greatest kind.ccd_expo) ≡ longest
unfolding length_by readout_of greatest rows
longest-reached = refl

-- what has to fit, in a state in range
pub length-fits : (s : Head) (n : ℕ) → in_range s ≡ true → n ≡ length_of s.settings → Fits w16 n
length-fits s n ranged is = record { fits = omega (arith, length-bounds s.settings (bounds s ranged).settings) }

pub latches-most : (s : Head) → in_range s ≡ true → s.latches.vdetcom + s.latches.vdetadj ≤ 30
latches-most s ranged = let h = (bounds s ranged).latches in omega arith
