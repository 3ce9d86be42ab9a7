-- What merging answers in numbers.
-- Assumes nothing.
use mathlib.Core.Path.{◌≡◌}
use mathlib.Core.List.{List}
use Prim.Native.Nat.{ℕ}
use Rattle.merge.specs.Answer.{merging_of, merged_of}
use Rattle.merge.specs.declared.answer.Merged.{Merged}
use Rattle.interface.specs.Operators.{merge_answer}

pub merge-answer : (xs ys : List ℕ) (room : ℕ) (m : Merged) → m ≡ merged_of (merging_of xs ys room) xs ys
    → record { number = m.number; restof = m.list; count = m.count; reststart = m.start } ≡ merge_answer xs ys room
unfolding merge_answer
merge-answer xs ys room m e = rw e
