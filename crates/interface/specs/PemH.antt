-- What the functions of the high-resolution head answer (document 02, request P5), each packed into one number of 32 bits: the request's number
-- in bits 24-31, and below it 0 where it is not 0.
-- Assumes nothing.
use Rattle.std.specs.Prelude.{ℕ, Result}
use Rattle.pixels.specs.Measured.{measured_number, measured_value}
use Rattle.pixels.specs.declared.MapError.{MapError}
use Rattle.requests.specs.Codec.{meaning_number, meaning_request, meaning_value, encoded_number, encoded_word}
use Rattle.requests.specs.declared.Meaning.{Meaning}
use Rattle.requests.specs.declared.RequestError.{RequestError}
use Rattle.interface.specs.Codec.{packed}

-- The lighted pixels, or the time of their readout, in bits 0-23.
unfoldable pub measured_answer : Result ℕ MapError → ℕ
measured_answer m = packed (measured_number m) 0 (measured_value m)

-- The request, or what is shared, in bits 16-23, and the value in bits 0-15.
unfoldable pub meaning_answer : Result Meaning RequestError → ℕ
meaning_answer m = packed (meaning_number m) (meaning_request m) (meaning_value m)

-- The word in bits 0-15.
unfoldable pub request_answer : Result ℕ RequestError → ℕ
request_answer e = packed (encoded_number e) 0 (encoded_word e)
