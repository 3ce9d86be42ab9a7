-- A tick that ends a task leads to both blocks of that state, with the five flags as they stood.
-- Assumes nothing.
use mathlib.Core.Path.{◌≡◌}
use mathlib.Core.Bool.{true}
use mathlib.Core.List.{List}
use Prim.Native.Nat.{ℕ}
use borrow.Author.Tests.{eq-eqb}
use lib.ListN.{length}
use Rattle.std.specs.Prelude.{Some, Ok}
use Rattle.head.specs.Range.{in_range}
use Rattle.head.specs.Busy.{busy_ticks}
use Rattle.head.specs.Flags.{shown}
use Rattle.head.specs.Tick.{task_of, tick_of, ticks_of}
use Rattle.head.specs.declared.state.Head.{Head}
use Rattle.head.specs.declared.tick.Due.TheVariants as due
use Rattle.head.proofs.BusyTicks.{last-due}
use Rattle.head.proofs.Keep.{tick-keeps}
use Rattle.head.proofs.Ticks.{ticks-settings}
use Rattle.blocks.specs.Written.{written_of, written_if, buffer_after}
use Rattle.blocks.specs.Ir.{ir_shown, ir_block_of}
use Rattle.blocks.specs.Ccd.{ccd_shown, ccd_block_of}
use Rattle.blocks.specs.declared.ir.IrBits.{IrBits}
use Rattle.blocks.specs.declared.ccd.CcdBits.{CcdBits}
use Rattle.due.specs.Due.{acquisition, both_written_of, due_written_of, ir_due_after, ccd_due_after}

module _ (s : Head) (h : in_range s ≡ true) (last : busy_ticks s ≡ 1) where
  ends : (tick_of s).due ≡ due.Blocks (task_of s.work.task) (shown s.flags)
  ends = last-due s h last

  kept : (tick_of s).head.settings ≡ s.settings
  unfolding ticks_of
  kept = ticks-settings 1 s h

  module _ (ir ccd : List ℕ) (ir-sized : length ir ≡ 20) (ccd-sized : length ccd ≡ 25) where
    both : both_written_of (tick_of s).head ir ccd ≡ Ok tt
    unfolding both_written_of written_of written_if
    both = rw (eq-eqb (length ccd) 25 ccd-sized, eq-eqb (length ir) 20 ir-sized, tick-keeps s h)

    pub ended-written : due_written_of (tick_of s).head (tick_of s).due ir ccd ≡ Some (Ok tt)
    unfolding due_written_of
    ended-written = rw (ends, both)

    pub ended-ir : (readings : List ℕ) (bits : IrBits)
        → ir_due_after (tick_of s).head (tick_of s).due readings bits ir ccd
        ≡ ir_block_of s (shown s.flags) (acquisition (task_of s.work.task)) readings bits
    unfolding ir_due_after buffer_after ir_block_of ir_shown
    ended-ir readings bits = rw (ends, both, kept)

    pub ended-ccd : (readings : List ℕ) (bits : CcdBits)
        → ccd_due_after (tick_of s).head (tick_of s).due readings bits ir ccd
        ≡ ccd_block_of s (shown s.flags) (acquisition (task_of s.work.task)) readings bits
    unfolding ccd_due_after buffer_after ccd_block_of ccd_shown
    ended-ccd readings bits = rw (ends, both, kept)
