-- A head's state as a row of 35 numbers: the registers and the latches, the flags, the task and its ticks, the motions, the begun set.
-- Assumes nothing.
use Rattle.std.specs.Prelude.{ℕ, List, [], ◌∷◌, ◌++◌, get_or}
use Rattle.head.specs.declared.state.Settings.{Settings}
use Rattle.head.specs.declared.state.Head.{Head}

-- The registers, in the order of document 01's power-on list.
abbrev pub registers : ℕ
registers = 20

abbrev pub register_numbers : Settings → List ℕ
register_numbers r =
    r.detector
    ∷ r.mode
    ∷ r.vdetcom
    ∷ r.vdetadj
    ∷ r.irdelay
    ∷ r.irexpo
    ∷ r.ccddelay
    ∷ r.ccdexpo
    ∷ r.x1
    ∷ r.y1
    ∷ r.x2
    ∷ r.y2
    ∷ r.ccdlamp
    ∷ r.irlamp
    ∷ r.shutter
    ∷ r.annealing
    ∷ r.sine
    ∷ r.cosine
    ∷ r.switch
    ∷ r.direction
    ∷ []

abbrev at : List ℕ → ℕ → ℕ
at l k = get_or l k 0

-- The registers that a row of numbers stands for, in range or not.
abbrev pub settings_of : List ℕ → Settings
settings_of l =
    record {
      detector = at l 0;
      mode = at l 1;
      vdetcom = at l 2;
      vdetadj = at l 3;
      irdelay = at l 4;
      irexpo = at l 5;
      ccddelay = at l 6;
      ccdexpo = at l 7;
      x1 = at l 8;
      y1 = at l 9;
      x2 = at l 10;
      y2 = at l 11;
      ccdlamp = at l 12;
      irlamp = at l 13;
      shutter = at l 14;
      annealing = at l 15;
      sine = at l 16;
      cosine = at l 17;
      switch = at l 18;
      direction = at l 19;
    }

abbrev pub places : ℕ
places = 35

unfoldable pub numbers_of : Head → List ℕ
numbers_of s =
    register_numbers s.settings
    ++ (
    s.latches.vdetcom
    ∷ s.latches.vdetadj
    ∷ s.flags.irtime
    ∷ s.flags.irword
    ∷ s.flags.scan
    ∷ s.flags.vistime
    ∷ s.flags.visword
    ∷ s.work.task
    ∷ s.work.busy
    ∷ s.motion.mirror
    ∷ s.motion.cover
    ∷ s.begun.count
    ∷ s.begun.sinm
    ∷ s.begun.sinl
    ∷ s.begun.cosm
    ∷ [])

-- The state that a row of numbers stands for, in range or not.
abbrev pub state_of : List ℕ → Head
state_of l =
    record {
      settings = settings_of l;
      latches = record { vdetcom = at l 20; vdetadj = at l 21 };
      flags = record { irtime = at l 22; irword = at l 23; scan = at l 24; vistime = at l 25; visword = at l 26 };
      work = record { task = at l 27; busy = at l 28 };
      motion = record { mirror = at l 29; cover = at l 30 };
      begun = record { count = at l 31; sinm = at l 32; sinl = at l 33; cosm = at l 34 };
    }
