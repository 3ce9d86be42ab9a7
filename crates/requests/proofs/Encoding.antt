-- The ways through the encoder: t is the table in the code, k a request and v a value.
-- Assumes nothing.
use mathlib.Core.Path.{◌≡◌, refl, sym, ap, ◌∙◌}
use mathlib.Core.Bool.{Bool, true, false, cond, not, ◌&&◌}
use mathlib.Core.List.{List, [], ◌∷◌}
use Prim.Native.Nat.{ℕ, zero, suc, ◌+◌, ◌*◌, ◌<◌, ◌≤◌}
use native.Mathlib.Nat.{le_of_suc-le-suc, not-suc-le-zero}
use native.Mathlib.Omega.{arith}
use borrow.Author.Tests.{lt-ltb, le-ltb, leb-true, ltb-true}
use lib.Dec.{T, ltb, leb}
use lib.ListN.{length, get_or}
use mir.Syntax.{w16}
use mir.Val.{Fits}
use Rattle.std.proofs.lemmas.Bool.{and_parts}
use Rattle.requests.specs.Parameters.{composed, mode_fields, lamp_fields, cover_fields}
use Rattle.requests.specs.Requests.{rows, requests, row_of, allows}
use Rattle.requests.specs.Codec.{word_of, encode_of, encoded_number, encoding_number}
use Rattle.std.specs.Prelude.{Result, Ok, Err}
use Rattle.requests.specs.declared.table.Row.{Row}
use Rattle.requests.specs.declared.RequestError.{RequestError}
use Rattle.requests.specs.declared.RequestError.TheVariants.{Unknown, OutOfRange}
use Rattle.requests.proofs.Every.{every, every-at}

-- every code has six bits, every value ten
small : ℕ → Bool
small k = ltb (row_of k).code 64 && ltb (row_of k).most 1024

all_small : T (every small requests)
unfolding small rows composed mode_fields lamp_fields cover_fields
all_small = tt

module _ (k : ℕ) (h : k < requests) where
  is-small : small k ≡ true
  is-small = every-at small requests all_small k h

  pub code-small : (row_of k).code < 64
  unfolding small
  code-small = ltb-true (row_of k).code 64 (and_parts (ltb (row_of k).code 64) (ltb (row_of k).most 1024) is-small).0

  most-small : (row_of k).most < 1024
  unfolding small
  most-small = ltb-true (row_of k).most 1024 (and_parts (ltb (row_of k).code 64) (ltb (row_of k).most 1024) is-small).1

  -- an allowed value has ten bits
  pub value-small : (v : ℕ) → allows (row_of k) v ≡ true → v < 1024
  unfolding allows
  value-small v e =
      let below = leb-true v (row_of k).most (and_parts (leb (row_of k).least v) (leb v (row_of k).most) e).1 in
      omega (arith, most-small)

any-default : {A : Type 0} (l : List A) (k : ℕ) (d e : A) → k < length l → get_or l k d ≡ get_or l k e
any-default [] k d e h = absurd (not-suc-le-zero h)
any-default (x ∷ xs) zero d e h = refl
any-default (x ∷ xs) (suc k) d e h = any-default xs k d e (le_of_suc-le-suc h)

rows_long : length rows ≡ requests
unfolding rows
rows_long = refl

module _ (t : List Row) (table : t ≡ rows) (k : ℕ) (d : Row) (h : k < requests) where
  pub row_at : get_or t k d ≡ row_of k
  row_at =
      ap (λ (l : List Row). get_or l k d) table ∙ any-default rows k d (record { code = 64; least = 1; most = 0 }) (rw rows_long h)

  module _ (v : ℕ) {b : Bool} (is : b ≡ allows (get_or t k d) v) where
    allowed-is : b ≡ allows (row_of k) v
    allowed-is = is ∙ ap (λ (r : Row). allows r v) row_at

    pub encode-out : b ≡ false → Err OutOfRange ≡ encode_of k v
    unfolding encode_of
    encode-out no' = rw (lt-ltb k requests h, ← allowed-is, no')

    module _ (yes' : b ≡ true) where
      own : (get_or t k d).code ≡ (row_of k).code
      own = ap (λ (r : Row). r.code) row_at

      pub encode-made : Ok ((get_or t k d).code * 1024 + v) ≡ encode_of k v
      unfolding encode_of word_of
      encode-made = rw (lt-ltb k requests h, ← allowed-is, yes', own)

      pub encode-fits : Fits w16 ((get_or t k d).code * 1024 + v)
      encode-fits = record { fits = omega (arith, own, code-small k h, value-small k h v (sym allowed-is ∙ yes')) }

  pub code_fits : Fits w16 ((get_or t k d).code * 1024)
  code_fits = let e : (get_or t k d).code ≡ (row_of k).code = ap (λ (r : Row). r.code) row_at in
      record { fits = omega (arith, code-small k h) }

pub encode-unknown : (k v : ℕ) → requests ≤ k → Err Unknown ≡ encode_of k v
unfolding encode_of
encode-unknown k v h = rw (le-ltb k requests h)

-- the number of what was encoded is the one that the request and the value give
pub encoding-number : (k v : ℕ) (r : Result ℕ RequestError) → r ≡ encode_of k v → encoded_number r ≡ encoding_number k v
unfolding encoding_number encode_of
encoding-number k v r e = rw e (go (ltb k requests) (allows (row_of k) v))
  where
    go : (a b : Bool) → encoded_number (cond a (cond b (Ok (word_of k v)) (Err OutOfRange)) (Err Unknown)) ≡ cond (not a) 43 (cond (not b) 44 0)
    go false b = refl
    go true false = refl
    go true true = refl
