-- How many words are allowed.
-- Assumes nothing.
use Rattle.std.specs.Prelude.{ℕ, zero, suc, ◌+◌, Result, Ok, Err}
use Rattle.words.specs.Codec.{decode_of}
use Rattle.words.specs.declared.Word.{Word}
use Rattle.words.specs.declared.DecodeError.{DecodeError}

abbrev pub one : Result Word DecodeError → ℕ
one (Ok w) = 1
one (Err e) = 0

-- how many of the words below n are allowed
unfoldable pub allowed_below : ℕ → ℕ
allowed_below zero = 0
allowed_below (suc w) = one (decode_of w) + allowed_below w
