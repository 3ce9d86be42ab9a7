-- A list read into two arrays with room for every list.
-- Assumes nothing.
use mathlib.Core.Path.{◌≡◌, refl, ap, ◌∙◌}
use mathlib.Core.List.{List}
use Prim.Native.Nat.{ℕ, ◌≤◌}
use native.Mathlib.Omega.{arith}
use borrow.Author.Tests.{le-leb}
use lib.ListN.{length, take, drop}
use lib.Seq.{take_at}
use Rattle.timed.specs.List.{most_words}
use Rattle.layout.proofs.Overwriting.{sets-front}
use Rattle.import.specs.Read.{with_room, import_after}
use Rattle.std.specs.Prelude.{Result, Ok, Err}
use Rattle.import.specs.declared.reasons.ImportError.{ImportError}

-- the numbers of a list that was read, in the first places
pub front_read : (numbers old : List ℕ) (n : ℕ) → length numbers ≡ n → n ≤ length old → take n (import_after (Ok n) numbers old) ≡ numbers
unfolding import_after
front_read numbers old n long room =
    ap (take n) (sets-front numbers old (omega arith)) ∙ take_at numbers (drop (length numbers) old) n long

-- the answer is that of the text
pub room-enough : (a : Result ℕ ImportError) → ((n : ℕ) → a ≡ Ok n → n ≤ most_words) → with_room a most_words most_words ≡ a
unfolding with_room
room-enough (Ok n) few = let h = few n refl in rw (le-leb n most_words h)
room-enough (Err e) few = refl
