-- From a tick to the two blocks: they are due when a task ended, and show the flags that the tick answers.
-- Assumes nothing.
use Rattle.std.specs.Prelude.{ℕ, Bool, true, false, cond, not, List, eqb, length, Option, None, Some, Result, Err}
use Rattle.head.specs.declared.state.Head.{Head}
use Rattle.head.specs.declared.state.Task.{Task}
use Rattle.head.specs.declared.state.Task.TheVariants.{Idle, Acquisition, Housekeeping}
use Rattle.head.specs.declared.tick.Due.{Due}
use Rattle.head.specs.declared.tick.Due.TheVariants as due
use Rattle.blocks.specs.Numbers.{refusal_number}
use Rattle.blocks.specs.Written.{written_of, write_number, buffer_after}
use Rattle.blocks.specs.Ir.{ir_words, ir_block_of}
use Rattle.blocks.specs.Ccd.{ccd_words, ccd_block_of}
use Rattle.blocks.specs.declared.refusal.Refusal.{Refusal}
use Rattle.blocks.specs.declared.refusal.Refusal.TheVariants.{Length}
use Rattle.blocks.specs.declared.ir.IrBits.{IrBits}
use Rattle.blocks.specs.declared.ccd.CcdBits.{CcdBits}
use Rattle.due.specs.Numbers.{not_due_number}

-- Whether an acquisition ended.
unfoldable pub acquisition : Task → Bool
acquisition Idle = false
acquisition Acquisition = true
acquisition Housekeeping = false

-- Both blocks are written, or neither: 11 where either buffer has not its block's length, then 21.
unfoldable pub both_written_of : Head → List ℕ → List ℕ → Result (Unit {0}) Refusal
both_written_of s ir ccd = cond (not (eqb (length ccd) ccd_words)) (Err Length) (written_of ir_words s ir)

-- By number: 11, then 21, else 0.
unfoldable pub both_number : Head → List ℕ → List ℕ → ℕ
both_number s ir ccd = cond (not (eqb (length ccd) ccd_words)) (refusal_number Length) (write_number ir_words s ir)

unfoldable pub due_written_of : Head → Due → List ℕ → List ℕ → Option (Result (Unit {0}) Refusal)
due_written_of s due.Nothing ir ccd = None
due_written_of s (due.Blocks ended flags) ir ccd = Some (both_written_of s ir ccd)
due_written_of s due.Refused ir ccd = None

-- By number: a number of its own where no block is due.
unfoldable pub due_number : Head → Due → List ℕ → List ℕ → ℕ
due_number s due.Nothing ir ccd = not_due_number
due_number s (due.Blocks ended flags) ir ccd = both_number s ir ccd
due_number s due.Refused ir ccd = not_due_number

-- What each buffer then holds.
unfoldable pub ir_due_after : Head → Due → List ℕ → IrBits → List ℕ → List ℕ → List ℕ
ir_due_after s due.Nothing readings bits ir ccd = ir
ir_due_after s (due.Blocks ended flags) readings bits ir ccd =
    buffer_after (both_written_of s ir ccd) (ir_block_of s flags (acquisition ended) readings bits) ir
ir_due_after s due.Refused readings bits ir ccd = ir

unfoldable pub ccd_due_after : Head → Due → List ℕ → CcdBits → List ℕ → List ℕ → List ℕ
ccd_due_after s due.Nothing readings bits ir ccd = ccd
ccd_due_after s (due.Blocks ended flags) readings bits ir ccd =
    buffer_after (both_written_of s ir ccd) (ccd_block_of s flags (acquisition ended) readings bits) ccd
ccd_due_after s due.Refused readings bits ir ccd = ccd
