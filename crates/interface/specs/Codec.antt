-- What a word means, and the word of a meaning, each packed into one number of 32 bits: document 01's number in bits 24-31.
-- Assumes nothing.
use Rattle.std.specs.Prelude.{ℕ, ◌+◌, ◌*◌, Result, Ok, Err}
use Rattle.words.specs.Codec.{decoded_number, encoded_number}
use Rattle.words.specs.declared.Word.{Word}
use Rattle.words.specs.declared.DecodeError.{DecodeError}
use Rattle.words.specs.declared.DecodeError.TheVariants.{Unknown, OutOfRange}
use Rattle.words.specs.declared.EncodeError.{EncodeError}

-- The data in bits 0-15, the kind in bits 16-23; what there is none of is 0.
abbrev pub packed : ℕ → ℕ → ℕ → ℕ
packed number kind low = number * 0x1000000 + kind * 0x10000 + low

-- The kind that stands in a refusal of a word, 0 where there is none.
abbrev pub refused_kind : DecodeError → ℕ
refused_kind Unknown = 0
refused_kind (OutOfRange k) = k

unfoldable pub decoded_answer : Result Word DecodeError → ℕ
unfolding decoded_number
decoded_answer (Ok w) = packed (decoded_number (Ok w)) w.kind w.bits
decoded_answer (Err e) = packed (decoded_number (Err e)) (refused_kind e) 0

-- The word in bits 0-15.
unfoldable pub encoded_answer : Result ℕ EncodeError → ℕ
unfolding encoded_number
encoded_answer (Ok w) = packed (encoded_number (Ok w)) 0 w
encoded_answer (Err e) = packed (encoded_number (Err e)) 0 0
