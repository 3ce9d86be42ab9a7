-- A word, whatever it is, and a tick keep a state in range.
-- Assumes nothing.
use mathlib.Core.Path.{◌≡◌, refl}
use mathlib.Core.Bool.{Bool, true, false, cond, ◌&&◌, ◌||◌}
use Prim.Native.Nat.{ℕ, zero, suc, ◌*◌, ◌-◌, ◌≤◌}
use native.Mathlib.Omega.{arith}
use borrow.Author.Tests.{eqb-true, eqb-false}
use lib.Dec.{eqb}
use Rattle.words.specs.Fields.{joined, direction, steps}
use Rattle.words.specs.Kinds as kind
use Rattle.words.specs.Kinds.{rows, least, greatest, allowed, most_steps}
use Rattle.words.proofs.Codec.{decode-read}
use Rattle.head.specs.Range.{in_range}
use Rattle.head.specs.State.{none_begun, no_flags, no_task, acquisition, housekeeping}
use Rattle.head.specs.Flags.{shown}
use Rattle.head.specs.Limits.{mirror_ticks, cover_step_ticks, hk_ticks, length_of}
use Rattle.head.specs.Apply.{after, settings_after, latches_after, work_after, motion_after, begun_after}
use Rattle.head.specs.Word.{answer_of}
use Rattle.head.specs.Tick.{motion_down, moved, task_of, passed, tick_of, ticks_of}
use Rattle.head.specs.declared.state.Begun.{Begun}
use Rattle.head.specs.declared.state.Work.{Work}
use Rattle.head.specs.declared.state.Head.{Head}
use Rattle.head.specs.declared.tick.Due.TheVariants.{Nothing, Blocks}
use Rattle.head.specs.declared.tick.Ticked.{Ticked}
use Rattle.head.specs.declared.word.Answered.{Answered}
use Rattle.head.proofs.Bounds.{Bounds, RegisterBounds, LatchBounds, MotionBounds, BegunBounds, Working, idle, acquiring, requesting, bounds, in-range, allowed-least, allowed-most, allowed-steps, length-bounds, working-most}
use Rattle.head.proofs.Answers.{Kept, same, dropped, Answer, ignoring, taking, answer}

-- a choice between two numbers is bounded if each is where it is chosen
pub chosen : (c : Bool) (x y n : ℕ) → (c ≡ true → x ≤ n) → y ≤ n → cond c x y ≤ n
chosen true x y n p q = p refl
chosen false x y n p q = q

-- a word of kind k with allowed data b
module _ (k b : ℕ) (fine : allowed k b ≡ true) where
  -- its data where it is of kind j
  of-kind : (j : ℕ) → eqb k j ≡ true → allowed j b ≡ true
  of-kind j e = rw (eqb-true k j e) at fine

  most : (j : ℕ) → eqb k j ≡ true → b ≤ greatest j
  most j e = allowed-most j b (of-kind j e)

  -- a register that a word of kind j sets to its data
  pub plain : (j old : ℕ) → old ≤ greatest j → cond (eqb k j) b old ≤ greatest j
  plain j old h = chosen (eqb k j) b old (greatest j) (most j) h

  at_least : (j old : ℕ) → least j ≤ old → least j ≤ cond (eqb k j) b old
  at_least j old h = go (eqb k j) refl
    where
      go : (c : Bool) → eqb k j ≡ c → least j ≤ cond c b old
      go true e = allowed-least j b (of-kind j e)
      go false e = h

  pub steps-most : eqb k kind.cover ≡ true → steps b ≤ most_steps
  steps-most e = allowed-steps b (of-kind kind.cover e)

  module _ (s : Head) (h : Bounds s) where
    settings-keep : RegisterBounds (settings_after s k b)
    unfolding settings_after greatest least rows
    settings-keep =
        let r = s.settings in
        let l = s.latches in
        let g = s.begun in
        record {
          detector = plain kind.ir_detector r.detector h.settings.detector;
          mode = plain kind.ir_win_mode r.mode h.settings.mode;
          vdetcom =
              chosen (eqb k kind.vdetcom_l) (joined l.vdetcom b) r.vdetcom 4095
              (λ e. let m : b ≤ 255 = most kind.vdetcom_l e in omega arith)
              h.settings.vdetcom;
          vdetadj =
              chosen (eqb k kind.vdetadj_l) (joined l.vdetadj b) r.vdetadj 4095
              (λ e. let m : b ≤ 255 = most kind.vdetadj_l e in omega arith)
              h.settings.vdetadj;
          irdelay = plain kind.ir_delay r.irdelay h.settings.irdelay;
          irexpo = plain kind.ir_expo r.irexpo h.settings.irexpo;
          least_ccddelay = at_least kind.ccd_delay r.ccddelay h.settings.least_ccddelay;
          ccddelay = plain kind.ccd_delay r.ccddelay h.settings.ccddelay;
          ccdexpo = plain kind.ccd_expo r.ccdexpo h.settings.ccdexpo;
          x1 = plain kind.win_x1 r.x1 h.settings.x1;
          y1 = plain kind.win_y1 r.y1 h.settings.y1;
          x2 = plain kind.win_x2 r.x2 h.settings.x2;
          y2 = plain kind.win_y2 r.y2 h.settings.y2;
          ccdlamp = plain kind.ccd_lamp r.ccdlamp h.settings.ccdlamp;
          irlamp = plain kind.ir_lamp r.irlamp h.settings.irlamp;
          shutter = plain kind.shutter r.shutter h.settings.shutter;
          annealing = plain kind.annealing r.annealing h.settings.annealing;
          sine =
              chosen (eqb k kind.cos_l) (joined g.sinm g.sinl) r.sine 8191 (λ e. omega arith) h.settings.sine;
          cosine =
              chosen (eqb k kind.cos_l) (joined g.cosm b) r.cosine 4095
              (λ e. let m : b ≤ 255 = most kind.cos_l e in omega arith)
              h.settings.cosine;
          switch = plain kind.switch r.switch h.settings.switch;
          direction =
              chosen (eqb k kind.cover) (direction b) r.direction 1
              (λ e. let m : b ≤ 1023 = most kind.cover e in omega arith)
              h.settings.direction;
        }

    latches-keep : LatchBounds (latches_after s k b)
    unfolding latches_after greatest rows
    latches-keep =
        record {
          vdetcom = plain kind.vdetcom_m s.latches.vdetcom h.latches.vdetcom;
          vdetadj = plain kind.vdetadj_m s.latches.vdetadj h.latches.vdetadj;
        }

    motion-keep : MotionBounds (motion_after s k b)
    unfolding motion_after
    motion-keep =
        record {
          mirror =
              chosen (eqb k kind.cos_l || (eqb k kind.switch && eqb b 0)) mirror_ticks s.motion.mirror mirror_ticks (λ e. omega arith)
              h.motion.mirror;
          cover =
              chosen (eqb k kind.cover) (cover_step_ticks * steps b) s.motion.cover (cover_step_ticks * most_steps)
              (λ e. let m = steps-most e in omega arith)
              h.motion.cover;
        }

    work-keep : Working (work_after s k).task (work_after s k).busy
    unfolding work_after
    work-keep = go (eqb k kind.start) (eqb k kind.hk) (eqb k kind.stop)
      where
        either : Bool → Bool → Bool → Work
        either x y z =
            cond x (record { task = acquisition; busy = length_of s.settings })
            (cond y (record { task = housekeeping; busy = hk_ticks })
            (cond z (record { task = no_task; busy = 0 }) s.work))

        go : (x y z : Bool) → Working (either x y z).task (either x y z).busy
        go true y z =
            let m = length-bounds s.settings h.settings in
            acquiring (length_of s.settings) (omega arith) (omega arith)
        go false true z = requesting hk_ticks (omega arith) (omega arith)
        go false false true = idle
        go false false false = h.work

    begun-keep : BegunBounds (begun_after s k b)
    unfolding begun_after greatest rows
    begun-keep =
        go (eqb k kind.sin_m) (most kind.sin_m) (eqb k kind.sin_l) (most kind.sin_l) (eqb k kind.cos_m) (most kind.cos_m) (eqb k kind.cos_l)
      where
        g : Begun
        g = s.begun

        go : (x : Bool) → (x ≡ true → b ≤ 31) → (y : Bool) → (y ≡ true → b ≤ 255) → (z : Bool) → (z ≡ true → b ≤ 15) → (u : Bool)
            → BegunBounds
            (cond x (record { count = 1; sinm = b; sinl = 0; cosm = 0 })
            (cond y (record { count = 2; sinm = g.sinm; sinl = b; cosm = 0 })
            (cond z (record { count = 3; sinm = g.sinm; sinl = g.sinl; cosm = b })
            (cond u none_begun g))))
        go true p y q z r u = let m = p refl in omega arith
        go false p true q z r u = let m = q refl in let n = h.begun.sinm in omega arith
        go false p false q true r u = let m = r refl in omega arith
        go false p false q false r true = omega arith
        go false p false q false r false = h.begun

    after-keep : Bounds (after s k b)
    unfolding after
    after-keep =
        record {
          settings = settings-keep;
          latches = latches-keep;
          flags = h.flags;
          motion = motion-keep;
          begun = begun-keep;
          work = work-keep;
          busy = working-most (work_after s k).task (work_after s k).busy work-keep;
        }

module _ (s : Head) (h : Bounds s) where
  kept-keep : (g : Begun) → Kept s.begun g → BegunBounds g
  kept-keep g same = h.begun
  kept-keep g dropped = omega arith

  answer-bounds : (w : ℕ) (a : Answered) → Answer s w a → Bounds a.head
  answer-bounds w a (ignoring f g c p q) =
      record {
        settings = h.settings;
        latches = h.latches;
        flags = p h.flags;
        motion = h.motion;
        begun = kept-keep g q;
        work = h.work;
        busy = h.busy;
      }
  answer-bounds w a (taking k b p) = after-keep k b (decode-read w k b p.decoded).fine s h

  pub word-bounds : (w : ℕ) → Bounds (answer_of s w).head
  word-bounds w = answer-bounds w (answer_of s w) (answer s w)

  passed-bounds : Bounds (passed s).head
  unfolding passed
  passed-bounds = go (eqb s.work.busy 1) refl
    where
      down : (t n : ℕ) → (n ≡ 1 → ⊥) → Working t n → Working t (n - 1)
      down t n e idle = idle
      down t n e (acquiring m p q) = acquiring (n - 1) (omega arith) (omega arith)
      down t n e (requesting m p q) = requesting (n - 1) (omega arith) (omega arith)

      ended : Ticked
      ended = record { head = moved s no_flags (record { task = no_task; busy = 0 }); due = Blocks (task_of s.work.task) (shown s.flags) }

      going : Ticked
      going = record { head = moved s s.flags (record { task = s.work.task; busy = s.work.busy - 1 }); due = Nothing }

      slower : MotionBounds (motion_down s.motion)
      slower = let m = h.motion in record { mirror = omega arith; cover = omega arith }

      go : (x : Bool) → eqb s.work.busy 1 ≡ x → Bounds (cond x ended going).head
      go true e =
          record {
            settings = h.settings;
            latches = h.latches;
            flags = omega arith;
            motion = slower;
            begun = h.begun;
            work = idle;
            busy = omega arith;
          }
      go false e =
          record {
            settings = h.settings;
            latches = h.latches;
            flags = h.flags;
            motion = slower;
            begun = h.begun;
            work = down s.work.task s.work.busy (eqb-false s.work.busy 1 e) h.work;
            busy = let m = h.busy in omega arith;
          }

module _ (s : Head) (h : in_range s ≡ true) where
  pub word_keeps : (w : ℕ) → in_range (answer_of s w).head ≡ true
  word_keeps w = in-range (answer_of s w).head (word-bounds s (bounds s h) w)

  pub tick-keeps : in_range (tick_of s).head ≡ true
  unfolding tick_of
  tick-keeps = rw h (in-range (passed s).head (passed-bounds s (bounds s h)))

pub ticks-keep : (n : ℕ) (s : Head) → in_range s ≡ true → in_range (ticks_of n s) ≡ true
unfolding ticks_of
ticks-keep zero s h = h
ticks-keep (suc n) s h = ticks-keep n (tick_of s).head (tick-keeps s h)
