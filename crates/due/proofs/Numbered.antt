-- The number and place of what is answered for both blocks: what decides the answer decides them.
-- Assumes nothing.
use Rattle.std.proofs.Common.{◌≡◌, ℕ, List, refl}
use Rattle.head.specs.declared.state.Head.{Head}
use Rattle.head.specs.declared.tick.Due.{Due}
use Rattle.head.specs.declared.tick.Due.TheVariants as due
use Rattle.blocks.specs.Numbers.{written_number, written_place}
use Rattle.blocks.specs.Written.{written_if, written_of, write_number}
use Rattle.blocks.proofs.Numbered.{chosen, same}
use Rattle.due.specs.Numbers.{due_written_number, due_written_place}
use Rattle.due.specs.Due.{both_written_of, both_number, due_written_of, due_number}

module _ (s : Head) (ir ccd : List ℕ) where
  pub both-number : written_number (both_written_of s ir ccd) ≡ both_number s ir ccd
  unfolding both_written_of both_number written_of written_if write_number
  both-number = simp (chosen written_number)

  pub both-place : written_place (both_written_of s ir ccd) ≡ 0
  unfolding both_written_of written_of written_if
  both-place = simp (chosen written_place, same)

  pub due-number : (d : Due) → due_written_number (due_written_of s d ir ccd) ≡ due_number s d ir ccd
  unfolding due_written_of due_number
  due-number due.Nothing = refl
  due-number (due.Blocks ended flags) = both-number
  due-number due.Refused = refl

  pub due-place : (d : Due) → due_written_place (due_written_of s d ir ccd) ≡ 0
  unfolding due_written_of
  due-place due.Nothing = refl
  due-place (due.Blocks ended flags) = both-place
  due-place due.Refused = refl
