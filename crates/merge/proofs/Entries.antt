-- An entry made of a tick and a word of 16 bits has that tick and that word.
-- Assumes nothing.
use mathlib.Core.Path.{◌≡◌}
use Prim.Native.Nat.{ℕ, ◌+◌, ◌*◌, ◌<◌}
use native.Mathlib.Omega.{arith}
use Rattle.merge.specs.Merge.{tick_in, word_in}

module _ (tick word : ℕ) (short : word < 65536) where
  -- its tick
  pub entry-tick : tick_in (tick * 65536 + word) ≡ tick
  entry-tick = omega arith

  -- its word
  pub entry-word : word_in (tick * 65536 + word) ≡ word
  entry-word = omega arith
