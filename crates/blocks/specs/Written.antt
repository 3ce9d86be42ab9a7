-- Document 01, "Blocks": a writer's answer, and what it leaves in the buffer.
-- Assumes nothing.
use Rattle.std.specs.Prelude.{ℕ, Bool, cond, not, List, eqb, length, Result, Ok, Err}
use Rattle.head.specs.Range.{in_range}
use Rattle.head.specs.declared.state.Head.{Head}
use Rattle.blocks.specs.Numbers.{refusal_number}
use Rattle.blocks.specs.declared.refusal.Refusal.{Refusal}
use Rattle.blocks.specs.declared.refusal.Refusal.TheVariants.{Length, State}

-- 11 a buffer that has not the block's n words, then 21 a state out of range.
unfoldable pub written_if : ℕ → Bool → List ℕ → Result (Unit {0}) Refusal
written_if n fine buffer = cond (not (eqb (length buffer) n)) (Err Length) (cond (not fine) (Err State) (Ok tt))

unfoldable pub written_of : ℕ → Head → List ℕ → Result (Unit {0}) Refusal
written_of n s buffer = written_if n (in_range s) buffer

-- By number: 11 a buffer that has not the block's n words, then 21 a state out of range, else 0.
unfoldable pub write_number : ℕ → Head → List ℕ → ℕ
write_number n s buffer =
    cond (not (eqb (length buffer) n)) (refusal_number Length) (cond (not (in_range s)) (refusal_number State) 0)

-- A refusal writes nothing; a success gives every word of the buffer.
unfoldable pub buffer_after : Result (Unit {0}) Refusal → List ℕ → List ℕ → List ℕ
buffer_after (Ok done) block buffer = block
buffer_after (Err r) block buffer = buffer
