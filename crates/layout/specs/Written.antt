-- A text written into a list of bytes from a place on, as far as the list goes.
-- Assumes nothing.
use Rattle.std.specs.Prelude.{ℕ, ◌+◌, min, ◌≡◌, List, ◌++◌, length, drop}
use Rattle.std.proofs.lemmas.List.Edits.{sets}
use Rattle.io.specs.Counts.{IsPrefixLen}

-- The place after it, or the list's end where that comes first; the bytes, of which all others are as they were. Past the end `sets`
-- writes nothing.
pub record Written (old : List ℕ) (at : ℕ) (text : List ℕ) (next : ℕ) (new : List ℕ) : Type 0 where
  pub place : next ≡ min (at + length text) (length old)
  pub bytes : new ≡ sets old at text

-- The whole text at the front: its length, and the bytes, of which all others are as they were. The length counts bytes of the list.
pub record Front (old text : List ℕ) (n : ℕ) (new : List ℕ) : Type 0 where
  pub long : n ≡ length text
  pub bytes : new ≡ text ++ drop n old
  pub counts : IsPrefixLen n new
