-- What the exported functions of the two operators answer, and the array that they leave (document 02, request P6).
-- Assumes nothing.
use Rattle.std.specs.Prelude.{ℕ, cond, List}
use Rattle.head.specs.Row.{numbers_of, state_of}
use Rattle.operators.specs.Passing.{passed_on, passing_number}
use Rattle.merge.specs.Answer.{merging_of, merged_of}
use Rattle.interface.specs.State.{well_formed}
use Rattle.interface.specs.Stepping.{state_refused}
use Rattle.interface.specs.declared.two_operators.MergeAnswer.{MergeAnswer}

-- An array that is not well formed is refused with 21, as for a word; else the number of what became of the word.
unfoldable pub pass_on_answer : List ℕ → ℕ → ℕ → ℕ
pass_on_answer l g w = cond (well_formed l) (passing_number (passed_on (state_of l) g w).passing) state_refused

unfoldable pub pass_on_state : List ℕ → ℕ → ℕ → List ℕ
pass_on_state l g w = cond (well_formed l) (numbers_of (passed_on (state_of l) g w).head) l

-- Merging in numbers: the refusal, whose list the rest is of, how many entries are merged, and where the rest starts.
unfoldable pub merge_answer : List ℕ → List ℕ → ℕ → MergeAnswer
merge_answer xs ys room =
    let m = merged_of (merging_of xs ys room) xs ys in
    record { number = m.number; restof = m.list; count = m.count; reststart = m.start }
