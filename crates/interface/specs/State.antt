-- A head's state as the array of 35 numbers that crosses the C interface.
-- Assumes nothing.
use Rattle.std.specs.Prelude.{ℕ, Bool, cond, ◌&&◌, List, eqb, length}
use Rattle.head.specs.Range.{in_range}
use Rattle.head.specs.State.{power_on}
use Rattle.head.specs.Row.{places, numbers_of, state_of}
use Rattle.head.specs.declared.state.Head.{Head}

-- A flag is 0 or 1.
abbrev pub bit_of : Bool → ℕ
bit_of b = cond b 1 0

-- The array has a state's 35 places.
unfoldable pub well_formed : List ℕ → Bool
well_formed l = eqb (length l) places

-- A state in range.
unfoldable pub valid : List ℕ → Bool
valid l = well_formed l && in_range (state_of l)

-- The head that an array holds, and power-on where it has not 35 places.
unfoldable pub head_of : List ℕ → Head
head_of l = cond (well_formed l) (state_of l) power_on

-- A head stored in an array of 35 places; any other is left as it was.
unfoldable pub stored_in : Head → List ℕ → List ℕ
stored_in h l = cond (well_formed l) (numbers_of h) l
