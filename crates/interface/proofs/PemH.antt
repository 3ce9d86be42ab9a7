-- The answers of the high-resolution head's functions, packed.
-- Assumes nothing.
use Rattle.std.proofs.Common.{◌≡◌, ℕ, ◌+◌, ◌*◌, arith}
use Rattle.std.specs.Prelude.{Result, Ok, Err}
use Rattle.pixels.specs.Measured.{error_number}
use Rattle.pixels.specs.declared.MapError.{MapError}
use Rattle.requests.specs.Codec.{meaning_request, meaning_value}
use Rattle.requests.specs.Codec as requests
use Rattle.requests.specs.declared.Meaning.{Meaning}
use Rattle.requests.specs.declared.RequestError.{RequestError}
use Rattle.interface.specs.PemH.{measured_answer, meaning_answer, request_answer}

module _ {m : Result ℕ MapError} where
  pub measured-found : {v : ℕ} → m ≡ Ok v → v ≡ measured_answer m
  unfolding measured_answer
  measured-found e = rw e (omega arith)

  pub measured-refused : {f : MapError} → m ≡ Err f → {n : ℕ} → n ≡ error_number f → n * 0x1000000 ≡ measured_answer m
  unfolding measured_answer
  measured-refused e is = rw (e, is) (omega arith)

module _ {m : Result Meaning RequestError} where
  pub meaning-found : {a : Meaning} → m ≡ Ok a → {r v : ℕ} → r ≡ meaning_request (Ok a) → v ≡ meaning_value (Ok a)
      → r * 0x10000 + v ≡ meaning_answer m
  unfolding meaning_answer
  meaning-found e request value = rw (e, request, value) (omega arith)

  pub meaning-refused : {f : RequestError} → m ≡ Err f → {n : ℕ} → n ≡ requests.error_number f → n * 0x1000000 ≡ meaning_answer m
  unfolding meaning_answer
  meaning-refused e is = rw (e, is) (omega arith)

module _ {m : Result ℕ RequestError} where
  pub request-made : {w : ℕ} → m ≡ Ok w → {v : ℕ} → v ≡ w → v ≡ request_answer m
  unfolding request_answer
  request-made e same = rw (e, same) (omega arith)

  pub request-refused : {f : RequestError} → m ≡ Err f → {n : ℕ} → n ≡ requests.error_number f → n * 0x1000000 ≡ request_answer m
  unfolding request_answer
  request-refused e is = rw (e, is) (omega arith)
