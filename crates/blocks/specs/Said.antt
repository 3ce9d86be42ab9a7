-- A state, flags and bits from which what two blocks say could have been written: the registers that the blocks show, and all else
-- as at power-on.
-- Assumes nothing.
use Rattle.words.specs.Fields.{switched, current}
use Rattle.head.specs.State.{power_on}
use Rattle.head.specs.declared.state.Settings.{Settings}
use Rattle.head.specs.declared.state.Flags.{Flags}
use Rattle.head.specs.declared.state.Head.{Head}
use Rattle.status.specs.Status.{bit, sine_word}
use Rattle.blocks.specs.declared.ir.IrBits.{IrBits}
use Rattle.blocks.specs.declared.ir.IrMeaning.{IrMeaning}
use Rattle.blocks.specs.declared.ccd.CcdBits.{CcdBits}
use Rattle.blocks.specs.declared.ccd.CcdMeaning.{CcdMeaning}

abbrev pub settings_said : IrMeaning → CcdMeaning → Settings
settings_said m n =
    let p = power_on.settings in
    record {
      detector = bit m.flags.detector;
      mode = m.mode;
      vdetcom = p.vdetcom;
      vdetadj = p.vdetadj;
      irdelay = m.delay;
      irexpo = m.expo;
      ccddelay = n.delay;
      ccdexpo = n.expo;
      x1 = n.window.x1;
      y1 = n.window.y1;
      x2 = n.window.x2;
      y2 = n.window.y2;
      ccdlamp = switched (bit n.flags.lampon) (current p.ccdlamp);
      irlamp = switched (bit m.lampshutter.lampon) m.lampshutter.lampcurrent;
      shutter = switched (bit m.lampshutter.closed) m.lampshutter.shuttercurrent;
      annealing = switched (bit m.flags.annealing) (current p.annealing);
      sine = sine_word n.sine;
      cosine = n.cosine;
      switch = p.switch;
      direction = bit m.flags.opens;
    }

abbrev pub head_said : IrMeaning → CcdMeaning → Head
head_said m n =
    record {
      settings = settings_said m n;
      latches = power_on.latches;
      flags = power_on.flags;
      work = power_on.work;
      motion = power_on.motion;
      begun = power_on.begun;
    }

-- The five flags that they show.
abbrev pub flags_said : IrMeaning → CcdMeaning → Flags
flags_said m n =
    record {
      irtime = m.flags.time;
      irword = m.flags.word;
      scan = m.flags.scan;
      vistime = n.flags.time;
      visword = n.flags.word;
    }

-- The caller's bits.
abbrev pub ir_bits_said : IrMeaning → IrBits
ir_bits_said m = record { latchup = m.flags.latchup; notclosed = m.flags.notclosed; notopen = m.flags.notopen }

abbrev pub ccd_bits_said : CcdMeaning → CcdBits
ccd_bits_said n = record { latchup = n.flags.latchup }
