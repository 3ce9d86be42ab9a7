-- The flag word that the operator sees is the last word of the CCD block that `write_due` writes.
-- Assumes nothing.
use mathlib.Core.Path.{◌≡◌, sym, ap, ◌∙◌}
use mathlib.Core.Bool.{Bool, true}
use mathlib.Core.List.{List, ◌++◌}
use Rattle.std.specs.Prelude.{Some}
use Prim.Native.Nat.{ℕ, ◌+◌}
use borrow.Author.Tests.{eq-eqb}
use lib.ListN.{length, get_or}
use lib.Seq.{get_or-append-add}
use Rattle.head.specs.Range.{in_range}
use Rattle.head.specs.declared.state.Flags.{Flags}
use Rattle.head.specs.declared.state.Head.{Head}
use Rattle.head.specs.declared.tick.Due.{Due}
use Rattle.head.specs.declared.tick.Due.TheVariants.{Nothing, Blocks, Refused}
use Rattle.status.specs.Status.{vis_flag_word}
use Rattle.blocks.specs.Written.{written_of, written_if, buffer_after}
use Rattle.blocks.specs.Ir.{ir_words}
use Rattle.blocks.specs.Ccd.{ccd_words, ccd_readings, ccd_shown, ccd_status, ccd_block_of}
use Rattle.blocks.specs.declared.ccd.CcdBits.{CcdBits}
use Rattle.due.specs.Due.{acquisition, both_written_of, ccd_due_after}
use Rattle.observation.specs.Observation.{flag_word_due}

-- the index of the flag word in the block
abbrev flag_place : ℕ
flag_place = ccd_readings + 8

module _ (s : Head) (readings : List ℕ) (bits : CcdBits) (many : length readings ≡ ccd_readings) where
  last_word : (f : Flags) (acquired : Bool)
      → get_or (ccd_block_of s f acquired readings bits) flag_place 0 ≡ vis_flag_word (ccd_shown s f acquired bits).flags
  unfolding ccd_block_of ccd_status
  last_word f acquired =
      ap (λ (n : ℕ). get_or (readings ++ ccd_status (ccd_shown s f acquired bits)) (n + 8) 0) (sym many)
      ∙ get_or-append-add readings (ccd_status (ccd_shown s f acquired bits)) 8 0

  -- where buffers have their lengths, and the state is in range
  pub word-written : (due : Due) (ir ccd : List ℕ) (w : ℕ) → in_range s ≡ true → length ir ≡ ir_words → length ccd ≡ ccd_words
      → flag_word_due s due bits ≡ Some w → get_or (ccd_due_after s due readings bits ir ccd) flag_place 0 ≡ w
  unfolding flag_word_due ccd_due_after both_written_of written_of written_if buffer_after
  word-written (Blocks ended flags) ir ccd w h i c e =
      rw (eq-eqb (length ccd) ccd_words c, eq-eqb (length ir) ir_words i, h) (last_word flags (acquisition ended) ∙ cc)
  word-written Nothing ir ccd w h i c e = cc
  word-written Refused ir ccd w h i c e = cc
