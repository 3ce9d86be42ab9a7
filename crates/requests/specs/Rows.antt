-- The rows one after another, as the code goes through them.
-- Assumes nothing.
use Rattle.std.specs.Prelude.{cond, List, [], ◌∷◌, ℕ, suc}
use Rattle.requests.specs.declared.table.Row.{Row}
use Rattle.requests.specs.Codec.{is_word_of}

-- The first of these rows, the kth of the table on, that has the word with a code and a parameter; past the table where there is none.
unfoldable pub first_from : List Row → ℕ → ℕ → ℕ → ℕ
first_from [] k c v = k
first_from (r ∷ rs) k c v = let later = first_from rs (suc k) c v in cond (is_word_of r c v) k later
