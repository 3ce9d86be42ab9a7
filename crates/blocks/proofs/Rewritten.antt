-- What two blocks say is shown by a state in range, from which the writers give the same words again.
-- Assumes nothing.
use mathlib.Core.Path.{◌≡◌, ap, ◌∙◌}
use mathlib.Core.Bool.{Bool, true, false}
use mathlib.Core.List.{List}
use Prim.Native.Nat.{ℕ, ◌+◌, ◌*◌, ◌/◌, ◌%◌, ◌<◌, ◌≤◌}
use native.Mathlib.Omega.{arith}
use lib.Dec.{lit≤}
use Rattle.std.specs.Prelude.{Ok}
use Rattle.head.specs.Range.{in_range}
use Rattle.head.proofs.Bounds.{bounds, in-range, power-on-range, RegisterBounds}
use Rattle.head.specs.State.{power_on}
use Rattle.status.specs.Status.{bit, is_set, sine_word, sine_fields, composed}
use Rattle.status.proofs.Fields.{bit-set, bit-fits, sine-back}
use Rattle.blocks.specs.Ir.{ir_shown, ir_block_of, ir_block, ir_read_of}
use Rattle.blocks.specs.Ccd.{ccd_shown, ccd_block_of, ccd_block, ccd_read_of}
use Rattle.blocks.specs.Said.{settings_said, head_said, flags_said, ir_bits_said, ccd_bits_said}
use Rattle.blocks.specs.declared.ir.IrMeaning.{IrMeaning}
use Rattle.blocks.specs.declared.ccd.CcdMeaning.{CcdMeaning}
use Rattle.blocks.proofs.IrRound.{IrFits, ir-read-fits, ir-read-status}
use Rattle.blocks.proofs.CcdRound.{CcdFits, ccd-read-fits, ccd-read-status}

-- a lamp's data field says whether it is on, and its current
switched-on : (b : Bool) (c : ℕ) → is_set ((bit b + 2 * c) % 2) ≡ b
switched-on b c = ap is_set (low b) ∙ bit-set b
  where
    low : (b : Bool) → (bit b + 2 * c) % 2 ≡ bit b
    low true = omega arith
    low false = omega arith

switched-current : (b : Bool) (c : ℕ) → (bit b + 2 * c) / 2 ≡ c
switched-current true c = omega arith
switched-current false c = omega arith

bit-most : (b : Bool) → bit b ≤ 1
bit-most true = omega arith
bit-most false = omega arith

module _ (m : IrMeaning) (n : CcdMeaning) where
  ir-said : ir_shown (head_said m n) (flags_said m n) m.flags.acquired (ir_bits_said m) ≡ m
  unfolding ir_shown
  ir-said = simp (bit-set, switched-on, switched-current)

  ccd-said : n.sine.magnitude < 4096 → ccd_shown (head_said m n) (flags_said m n) n.flags.acquired (ccd_bits_said n) ≡ n
  unfolding ccd_shown
  ccd-said h = simp (switched-on, sine-back n.sine h)

  module _ (i : IrFits m) (c : CcdFits n) where
    registers-said : RegisterBounds (settings_said m n)
    unfolding sine_word sine_fields composed
    registers-said =
        let detector = bit-most m.flags.detector in
        let ccdlamp = bit-most n.flags.lampon in
        let irlamp = bit-most m.lampshutter.lampon in
        let shutter = bit-most m.lampshutter.closed in
        let annealing = bit-most m.flags.annealing in
        let sign = bit-most n.sine.negative in
        let opens = bit-most m.flags.opens in
        record {
          detector = detector;
          mode = i.mode;
          vdetcom = lit≤ tt;
          vdetadj = lit≤ tt;
          irdelay = i.delay;
          irexpo = i.expo;
          least_ccddelay = c.least_delay;
          ccddelay = c.delay;
          ccdexpo = c.expo;
          x1 = c.x1;
          y1 = c.y1;
          x2 = c.x2;
          y2 = c.y2;
          ccdlamp = omega arith;
          irlamp = omega arith;
          shutter = omega arith;
          annealing = omega arith;
          sine = simp bit-fits (omega arith);
          cosine = c.cosine;
          switch = lit≤ tt;
          direction = opens;
        }

    pub said-in-range : in_range (head_said m n) ≡ true
    said-in-range =
        let p = bounds power_on power-on-range in
        in-range (head_said m n)
        (record {
          settings = registers-said;
          latches = p.latches;
          flags = p.flags;
          motion = p.motion;
          begun = p.begun;
          work = p.work;
          busy = p.busy;
        })

-- a block that was read is written again, beside what the other block could say
module _ (ws readings : List ℕ) (m : IrMeaning) (n : CcdMeaning) (e : ir_read_of ws ≡ Ok (ir_block readings m)) (c : CcdFits n) where
  pub ir-read-in-range : in_range (head_said m n) ≡ true
  ir-read-in-range = said-in-range m n (ir-read-fits ws readings m e) c

  pub ir-read-written : ir_block_of (head_said m n) (flags_said m n) m.flags.acquired readings (ir_bits_said m) ≡ ws
  unfolding ir_block_of
  ir-read-written = rw (ir-said m n) (ir-read-status ws readings m e)

module _ (ws readings : List ℕ) (m : IrMeaning) (n : CcdMeaning) (e : ccd_read_of ws ≡ Ok (ccd_block readings n)) (i : IrFits m) where
  pub ccd-read-in-range : in_range (head_said m n) ≡ true
  ccd-read-in-range = said-in-range m n i (ccd-read-fits ws readings n e)

  pub ccd-read-written : ccd_block_of (head_said m n) (flags_said m n) n.flags.acquired readings (ccd_bits_said n) ≡ ws
  unfolding ccd_block_of
  ccd-read-written =
      rw (ccd-said m n (ccd-read-fits ws readings n e).magnitude) (ccd-read-status ws readings n e)
