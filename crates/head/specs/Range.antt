-- Document 01, "The head": when a state is in range.
-- Assumes nothing.
use Rattle.std.specs.Prelude.{ℕ, ◌*◌, Bool, true, cond, ◌&&◌, List, [], ◌∷◌, leb, eqb}
use Rattle.words.specs.Fields.{joined, direction}
use Rattle.words.specs.Kinds as kind
use Rattle.words.specs.Kinds.{greatest, least, allowed, most_steps}
use Rattle.head.specs.Limits.{mirror_ticks, cover_step_ticks, hk_ticks, longest}
use Rattle.head.specs.State.{no_task, acquisition, housekeeping}
use Rattle.head.specs.declared.state.Settings.{Settings}
use Rattle.head.specs.declared.state.Latches.{Latches}
use Rattle.head.specs.declared.state.FlagBits.{FlagBits}
use Rattle.head.specs.declared.state.Motion.{Motion}
use Rattle.head.specs.declared.state.Begun.{Begun}
use Rattle.head.specs.declared.state.Head.{Head}

-- Every test of the list holds, and those before it, a.
unfoldable pub all_pass : Bool → List Bool → Bool
all_pass a [] = a
all_pass a (b ∷ bs) = all_pass (a && b) bs

-- Every register could have come from allowed words.
unfoldable pub register_tests : Settings → List Bool
register_tests s =
    leb s.detector (greatest kind.ir_detector)
    ∷ leb s.mode (greatest kind.ir_win_mode)
    ∷ leb s.vdetcom (joined (greatest kind.vdetcom_m) (greatest kind.vdetcom_l))
    ∷ leb s.vdetadj (joined (greatest kind.vdetadj_m) (greatest kind.vdetadj_l))
    ∷ leb s.irdelay (greatest kind.ir_delay)
    ∷ leb s.irexpo (greatest kind.ir_expo)
    ∷ leb (least kind.ccd_delay) s.ccddelay
    ∷ leb s.ccddelay (greatest kind.ccd_delay)
    ∷ leb s.ccdexpo (greatest kind.ccd_expo)
    ∷ leb s.x1 (greatest kind.win_x1)
    ∷ leb s.y1 (greatest kind.win_y1)
    ∷ leb s.x2 (greatest kind.win_x2)
    ∷ leb s.y2 (greatest kind.win_y2)
    ∷ leb s.ccdlamp (greatest kind.ccd_lamp)
    ∷ leb s.irlamp (greatest kind.ir_lamp)
    ∷ leb s.shutter (greatest kind.shutter)
    ∷ leb s.annealing (greatest kind.annealing)
    ∷ leb s.sine (joined (greatest kind.sin_m) (greatest kind.sin_l))
    ∷ leb s.cosine (joined (greatest kind.cos_m) (greatest kind.cos_l))
    ∷ leb s.switch (greatest kind.switch)
    ∷ leb s.direction (direction (greatest kind.cover))
    ∷ []

-- Latches are at most 15.
unfoldable pub latch_tests : Latches → List Bool
latch_tests l = leb l.vdetcom (greatest kind.vdetcom_m) ∷ leb l.vdetadj (greatest kind.vdetadj_m) ∷ []

-- A flag is set or not.
unfoldable pub flag_tests : FlagBits → List Bool
flag_tests f =
    leb f.irtime 1
    ∷ leb f.irword 1
    ∷ leb f.scan 1
    ∷ leb f.vistime 1
    ∷ leb f.visword 1
    ∷ []

-- Mirror motion is at most `mirror_ticks`, cover motion at most 2025.
unfoldable pub motion_tests : Motion → List Bool
motion_tests m = leb m.mirror mirror_ticks ∷ leb m.cover (cover_step_ticks * most_steps) ∷ []

-- The nth place of a begun set of so many words holds an allowed data field of its kind if it was received, and 0 otherwise.
unfoldable pub place : ℕ → ℕ → ℕ → ℕ → Bool
place count n k v = cond (leb n count) (allowed k v) (eqb v 0)

-- The begun set has 0-3 words.
unfoldable pub begun_tests : Begun → List Bool
begun_tests b =
    leb b.count 3
    ∷ place b.count 1 kind.sin_m b.sinm
    ∷ place b.count 2 kind.sin_l b.sinl
    ∷ place b.count 3 kind.cos_m b.cosm
    ∷ []

-- Busy is 0 with no task, 1-4238 with an acquisition or 1-3 with HK.
unfoldable pub work_in_range : ℕ → ℕ → Bool
work_in_range t n =
    cond (eqb t no_task) (eqb n 0)
    (cond (eqb t acquisition) (leb 1 n && leb n longest)
    (eqb t housekeeping && (leb 1 n && leb n hk_ticks)))

unfoldable pub in_range : Head → Bool
in_range s =
    all_pass true (register_tests s.settings)
    && all_pass true (latch_tests s.latches)
    && all_pass true (flag_tests s.flags)
    && all_pass true (motion_tests s.motion)
    && all_pass true (begun_tests s.begun)
    && work_in_range s.work.task s.work.busy
