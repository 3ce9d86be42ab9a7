-- The number and the place of what is answered where blocks may be due.
-- Assumes nothing.
use Rattle.std.specs.Prelude.{ℕ, Option, None, Some, Result}
use Rattle.blocks.specs.declared.refusal.Refusal.{Refusal}
use Rattle.blocks.specs.Numbers.{written_number, written_place}

-- Where no block is due. Document 01 has no number for that: this one is ours, and tells it from blocks that are written (0) and
-- from each refusal.
abbrev pub not_due_number : ℕ
not_due_number = 255

abbrev pub due_written_number : Option (Result (Unit {0}) Refusal) → ℕ
due_written_number None = not_due_number
due_written_number (Some w) = written_number w

abbrev pub due_written_place : Option (Result (Unit {0}) Refusal) → ℕ
due_written_place None = 0
due_written_place (Some w) = written_place w
