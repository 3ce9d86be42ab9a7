-- Document 01, "The head": what a word that is taken does, part by part of the state. Its kind is k and its data b.
-- Assumes nothing.
use Rattle.std.specs.Prelude.{ℕ, ◌*◌, cond, ◌&&◌, ◌||◌, eqb}
use Rattle.words.specs.Fields.{joined, direction, steps}
use Rattle.words.specs.Kinds as kind
use Rattle.head.specs.Limits.{mirror_ticks, cover_step_ticks, hk_ticks, length_of}
use Rattle.head.specs.State.{none_begun, no_task, acquisition, housekeeping}
use Rattle.head.specs.declared.state.Settings.{Settings}
use Rattle.head.specs.declared.state.Latches.{Latches}
use Rattle.head.specs.declared.state.Motion.{Motion}
use Rattle.head.specs.declared.state.Begun.{Begun}
use Rattle.head.specs.declared.state.Work.{Work}
use Rattle.head.specs.declared.state.Head.{Head}
use Rattle.head.specs.declared.word.Act.{Act}
use Rattle.head.specs.declared.word.Act.TheVariants.{None, Exposure, Request, Cover}

-- A word sets the register of its name. A VDET L word sets its register to latch x 256 + data. The mirror pair changes at COS L
-- alone. COVER sets the direction.
unfoldable pub settings_after : Head → ℕ → ℕ → Settings
settings_after s k b =
    let r = s.settings in
    record {
      detector = cond (eqb k kind.ir_detector) b r.detector;
      mode = cond (eqb k kind.ir_win_mode) b r.mode;
      vdetcom = cond (eqb k kind.vdetcom_l) (joined s.latches.vdetcom b) r.vdetcom;
      vdetadj = cond (eqb k kind.vdetadj_l) (joined s.latches.vdetadj b) r.vdetadj;
      irdelay = cond (eqb k kind.ir_delay) b r.irdelay;
      irexpo = cond (eqb k kind.ir_expo) b r.irexpo;
      ccddelay = cond (eqb k kind.ccd_delay) b r.ccddelay;
      ccdexpo = cond (eqb k kind.ccd_expo) b r.ccdexpo;
      x1 = cond (eqb k kind.win_x1) b r.x1;
      y1 = cond (eqb k kind.win_y1) b r.y1;
      x2 = cond (eqb k kind.win_x2) b r.x2;
      y2 = cond (eqb k kind.win_y2) b r.y2;
      ccdlamp = cond (eqb k kind.ccd_lamp) b r.ccdlamp;
      irlamp = cond (eqb k kind.ir_lamp) b r.irlamp;
      shutter = cond (eqb k kind.shutter) b r.shutter;
      annealing = cond (eqb k kind.annealing) b r.annealing;
      sine = cond (eqb k kind.cos_l) (joined s.begun.sinm s.begun.sinl) r.sine;
      cosine = cond (eqb k kind.cos_l) (joined s.begun.cosm b) r.cosine;
      switch = cond (eqb k kind.switch) b r.switch;
      direction = cond (eqb k kind.cover) (direction b) r.direction;
    }

-- A VDET M word fills a latch only.
unfoldable pub latches_after : Head → ℕ → ℕ → Latches
latches_after s k b =
    record {
      vdetcom = cond (eqb k kind.vdetcom_m) b s.latches.vdetcom;
      vdetadj = cond (eqb k kind.vdetadj_m) b s.latches.vdetadj;
    }

-- START begins an acquisition, HK keeps the head busy, STOP sets busy to 0.
unfoldable pub work_after : Head → ℕ → Work
work_after s k =
    cond (eqb k kind.start) (record { task = acquisition; busy = length_of s.settings })
    (cond (eqb k kind.hk) (record { task = housekeeping; busy = hk_ticks })
    (cond (eqb k kind.stop) (record { task = no_task; busy = 0 }) s.work))

-- COS L, and SWITCH on (0), start mirror motion; COVER starts cover motion by its steps.
unfoldable pub motion_after : Head → ℕ → ℕ → Motion
motion_after s k b =
    record {
      mirror = cond (eqb k kind.cos_l || (eqb k kind.switch && eqb b 0)) mirror_ticks s.motion.mirror;
      cover = cond (eqb k kind.cover) (cover_step_ticks * steps b) s.motion.cover;
    }

-- Mirror words come as SIN M, SIN L, COS M, COS L; SIN M begins afresh, and COS L ends the set.
unfoldable pub begun_after : Head → ℕ → ℕ → Begun
begun_after s k b =
    let g = s.begun in
    cond (eqb k kind.sin_m) (record { count = 1; sinm = b; sinl = 0; cosm = 0 })
    (cond (eqb k kind.sin_l) (record { count = 2; sinm = g.sinm; sinl = b; cosm = 0 })
    (cond (eqb k kind.cos_m) (record { count = 3; sinm = g.sinm; sinl = g.sinl; cosm = b })
    (cond (eqb k kind.cos_l) none_begun g)))

unfoldable pub after : Head → ℕ → ℕ → Head
unfolding settings_after latches_after work_after motion_after begun_after
after s k b =
    record {
      settings = settings_after s k b;
      latches = latches_after s k b;
      flags = s.flags;
      work = work_after s k;
      motion = motion_after s k b;
      begun = begun_after s k b;
    }

-- Acts: none, exposure, housekeeping, cover move with its bits.
unfoldable pub act_of : ℕ → ℕ → Act
act_of k b =
    cond (eqb k kind.start) Exposure
    (cond (eqb k kind.hk) Request
    (cond (eqb k kind.cover) (Cover b) None))
