-- Document 02, request P5: what a word means to the head, and the word of a request.
-- Assumes nothing.
use Rattle.std.specs.Prelude.{ℕ, suc, ◌+◌, ◌*◌, Bool, true, false, cond, not, ◌&&◌, ◌||◌, List, [], ◌∷◌, eqb, ltb, Result, Ok, Err}
use Rattle.requests.specs.declared.table.Row.{Row}
use Rattle.requests.specs.Requests.{rows, requests, row_of, allows, code_in, value_in}
use Rattle.requests.specs.declared.Meaning.{Meaning}
use Rattle.requests.specs.declared.Meaning.TheVariants.{One, Shared}
use Rattle.requests.specs.declared.RequestError.{RequestError}
use Rattle.requests.specs.declared.RequestError.TheVariants.{Unknown, OutOfRange}

-- Whether the word with a code and a parameter is one of a row's.
unfoldable pub is_word_of : Row → ℕ → ℕ → Bool
is_word_of r c v = eqb r.code c && allows r v

-- The requests that have it: of these rows, the kth of the table on.
unfoldable pub having_from : List Row → ℕ → ℕ → ℕ → List ℕ
having_from [] k c v = []
having_from (r ∷ rs) k c v = let later = having_from rs (suc k) c v in cond (is_word_of r c v) (k ∷ later) later

-- The requests that have a word.
unfoldable pub having : ℕ → List ℕ
having w = having_from rows 0 (code_in w) (value_in w)

-- Whether a code is one of these rows'.
unfoldable pub is_known : List Row → ℕ → Bool
is_known [] c = false
is_known (r ∷ rs) c = eqb r.code c || is_known rs c

-- Why none of these rows has a word with a code.
abbrev pub refused_of : List Row → ℕ → RequestError
refused_of rs c = cond (is_known rs c) OutOfRange Unknown

-- One request has the word, or several do, of which the first is told; or none has it, and no row has its code, or none of those that
-- have it allows the value.
unfoldable pub meaning_by : List ℕ → ℕ → Result Meaning RequestError
meaning_by [] w = Err (refused_of rows (code_in w))
meaning_by (k ∷ []) w = Ok (One k (value_in w))
meaning_by (k ∷ j ∷ js) w = Ok (Shared k (value_in w))

unfoldable pub decode_of : ℕ → Result Meaning RequestError
decode_of w = meaning_by (having w) w

-- The code above the parameter.
unfoldable pub word_of : ℕ → ℕ → ℕ
word_of k v = (row_of k).code * 1024 + v

unfoldable pub encode_of : ℕ → ℕ → Result ℕ RequestError
encode_of k v = cond (ltb k requests) (cond (allows (row_of k) v) (Ok (word_of k v)) (Err OutOfRange)) (Err Unknown)

-- Request P5's number for each refusal: 43 request unknown, 44 its value out of range.
abbrev pub error_number : RequestError → ℕ
error_number Unknown = 43
error_number OutOfRange = 44

-- The same numbers for each answer: 0 where there is nothing to refuse.
abbrev pub meaning_number : Result Meaning RequestError → ℕ
meaning_number (Ok m) = 0
meaning_number (Err e) = error_number e

abbrev pub encoded_number : Result ℕ RequestError → ℕ
encoded_number (Ok w) = 0
encoded_number (Err e) = error_number e

-- The same numbers from the word, or from the request and the value, in the order of the checks.
unfoldable pub is_none : List ℕ → Bool
is_none [] = true
is_none (k ∷ ks) = false

unfoldable pub finding_number : ℕ → ℕ
finding_number w = cond (not (is_known rows (code_in w))) 43 (cond (is_none (having w)) 44 0)

unfoldable pub encoding_number : ℕ → ℕ → ℕ
encoding_number k v = cond (not (ltb k requests)) 43 (cond (not (allows (row_of k) v)) 44 0)

-- The number of a meaning: that of the request; of several that share the word, 128 and that of the first; 0 where there is none.
abbrev pub shared_mark : ℕ
shared_mark = 128

abbrev pub meaning_request : Result Meaning RequestError → ℕ
meaning_request (Ok (One k v)) = k
meaning_request (Ok (Shared k v)) = shared_mark + k
meaning_request (Err e) = 0

abbrev pub meaning_value : Result Meaning RequestError → ℕ
meaning_value (Ok (One k v)) = v
meaning_value (Ok (Shared k v)) = v
meaning_value (Err e) = 0

abbrev pub encoded_word : Result ℕ RequestError → ℕ
encoded_word (Ok w) = w
encoded_word (Err e) = 0
