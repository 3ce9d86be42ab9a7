-- Document 01, "The words": what a word means, and the word of a meaning.
-- Assumes nothing.
use Rattle.std.specs.Prelude.{ℕ, ◌+◌, ◌*◌, cond, not, ltb, Result, Ok, Err}
use Rattle.words.specs.Kinds.{row_of, identifier, bits_of, allowed, kind_of, kinds}
use Rattle.words.specs.declared.Word.{Word}
use Rattle.words.specs.declared.DecodeError.{DecodeError}
use Rattle.words.specs.declared.DecodeError.TheVariants.{Unknown, OutOfRange}
use Rattle.words.specs.declared.EncodeError.{EncodeError}
use Rattle.words.specs.declared.EncodeError.TheVariants as encoding

-- A kind and its data.
abbrev pub word : ℕ → ℕ → Word
word k d = record { kind = k; bits = d }

-- A known identifier with allowed data is a word; with other data it is out of range.
unfoldable pub judged : ℕ → ℕ → Result Word DecodeError
judged k d = cond (allowed k d) (Ok (word k d)) (Err (OutOfRange k))

-- Data under the kind of an identifier; an identifier outside the table is unknown.
abbrev pub meaning_of : ℕ → ℕ → Result Word DecodeError
meaning_of k d = cond (ltb k kinds) (judged k d) (Err Unknown)

unfoldable pub decode_of : ℕ → Result Word DecodeError
decode_of w = meaning_of (kind_of (identifier w)) (bits_of w)

-- The identifier above the data.
unfoldable pub word_of : ℕ → ℕ → ℕ
word_of k d = identifier (row_of k).first * 1024 + d

-- Data not allowed for the kind are out of range; a number that is no kind allows none.
unfoldable pub encode_of : ℕ → ℕ → Result ℕ EncodeError
encode_of k d = cond (allowed k d) (Ok (word_of k d)) (Err encoding.OutOfRange)

-- Document 01's number for each refusal: 23 unknown identifier, 24 out of range.
unfoldable pub decode_error_number : DecodeError → ℕ
decode_error_number Unknown = 23
decode_error_number (OutOfRange k) = 24

unfoldable pub encode_error_number : EncodeError → ℕ
encode_error_number encoding.OutOfRange = 24

-- The same numbers for each answer: 0 where there is nothing to refuse.
unfoldable pub decoded_number : Result Word DecodeError → ℕ
decoded_number (Ok w) = 0
decoded_number (Err e) = decode_error_number e

unfoldable pub encoded_number : Result ℕ EncodeError → ℕ
encoded_number (Ok w) = 0
encoded_number (Err e) = encode_error_number e

-- The same numbers from the word itself, in the order of the checks: 23 where its identifier is outside the table, 24 where its data
-- are not allowed, else 0.
unfoldable pub finding_number : ℕ → ℕ
finding_number w =
    let k = kind_of (identifier w) in
    cond (not (ltb k kinds)) 23
    (cond (not (allowed k (bits_of w))) 24 0)

-- 24 where the data are not allowed for the kind, else 0.
unfoldable pub encoding_number : ℕ → ℕ → ℕ
encoding_number k d = cond (not (allowed k d)) 24 0
