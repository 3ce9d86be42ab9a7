-- Document 02, request P2: the kind of a word by its upper byte.
-- Assumes nothing.
use Rattle.std.specs.Prelude.{ℕ, ◌*◌}
use Rattle.words.specs.Kinds.{identifier, kind_of}

-- The kind of the words whose upper byte is b: they have one identifier, that of the first.
unfoldable pub kind_of_byte : ℕ → ℕ
kind_of_byte b = kind_of (identifier (b * 256))
