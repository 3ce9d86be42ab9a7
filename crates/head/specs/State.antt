-- Document 01, "The head": the power-on state, and the numbers that a state holds for a flag and a task.
-- Assumes nothing.
use Rattle.std.specs.Prelude.{ℕ}
use Rattle.head.specs.declared.state.Head.{Head}
use Rattle.head.specs.declared.state.FlagBits.{FlagBits}
use Rattle.head.specs.declared.state.Begun.{Begun}

-- The tasks in a state; these numbers are ours, since the papers give none.
abbrev pub no_task : ℕ
no_task = 0

abbrev pub acquisition : ℕ
acquisition = 1

abbrev pub housekeeping : ℕ
housekeeping = 2

-- A flag in a state is 1 where it is set and 0 where it is not. No flags.
abbrev pub no_flags : FlagBits
no_flags = record { irtime = 0; irword = 0; scan = 0; vistime = 0; visword = 0 }

-- No mirror set begun.
abbrev pub none_begun : Begun
none_begun = record { count = 0; sinm = 0; sinl = 0; cosm = 0 }

abbrev pub power_on : Head
power_on =
    record {
      settings =
          record {
            detector = 0;
            mode = 0;
            vdetcom = 2430;
            vdetadj = 2213;
            irdelay = 5;
            irexpo = 1;
            ccddelay = 5;
            ccdexpo = 1;
            x1 = 0;
            y1 = 0;
            x2 = 875;
            y2 = 511;
            ccdlamp = 6;
            irlamp = 12;
            shutter = 12;
            annealing = 126;
            sine = 0;
            cosine = 4095;
            switch = 1;
            direction = 0;
          };
      latches = record { vdetcom = 9; vdetadj = 8 };
      flags = no_flags;
      work = record { task = no_task; busy = 0 };
      motion = record { mirror = 0; cover = 0 };
      begun = none_begun;
    }
