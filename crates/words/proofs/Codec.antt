-- Laws of the decoder and the encoder: the kind of a word, each way through the code, and the two round trips.
-- Assumes nothing.
use mathlib.Core.Path.{◌≡◌, refl, sym, ◌∙◌, ap}
use mathlib.Core.Bool.{Bool, true, false, cond, not}
use mathlib.Core.List.{List}
use Prim.Native.Nat.{ℕ, ◌+◌, ◌*◌, ◌<◌, ◌≤◌, ◌/◌}
use native.Mathlib.Nat.{div-add-mod'}
use native.Mathlib.Omega.{arith}
use borrow.Author.Tests.{lt-ltb, le-ltb, ltb-true}
use lib.Arith.{digits_div, digits_mod}
use lib.Dec.{T, ltb}
use mir.Syntax.{w16}
use mir.Val.{Fits}
use lib.ListN.{get_or}
use Rattle.words.specs.Kinds.{rows, row_of, kind_from, kind_of, allowed, identifier, bits_of, kinds}
use Rattle.std.specs.Prelude.{Result, Ok, Err}
use Rattle.words.specs.Codec.{word, decode_of, judged, meaning_of, encode_of, word_of, decode_error_number, encode_error_number, decoded_number, encoded_number, finding_number, encoding_number}
use Rattle.words.specs.declared.Word.{Word}
use Rattle.words.specs.declared.DecodeError.{DecodeError}
use Rattle.words.specs.declared.DecodeError.TheVariants.{Unknown, OutOfRange}
use Rattle.words.specs.declared.EncodeError.{EncodeError}
use Rattle.words.specs.declared.EncodeError.TheVariants as encoding
use Rattle.words.proofs.Allowed.{allowed-kind, allowed-bits}
use Rattle.words.proofs.Tables.{agree, agree_at, tabulates, tabulates-at, below, below_at, Others, others-at}

-- the number of what was decoded or encoded is the one that the word, or the kind and the data, give
pub finding-number : (w : ℕ) (r : Result Word DecodeError) → r ≡ decode_of w → decoded_number r ≡ finding_number w
unfolding decoded_number decode_error_number finding_number decode_of judged
finding-number w r e = rw e (go (ltb (kind_of (identifier w)) kinds) (allowed (kind_of (identifier w)) (bits_of w)))
  where
    go : (a b : Bool) → decoded_number (cond a (cond b (Ok (word (kind_of (identifier w)) (bits_of w))) (Err (OutOfRange (kind_of (identifier w))))) (Err Unknown))
        ≡ cond (not a) 23 (cond (not b) 24 0)
    go false b = refl
    go true false = refl
    go true true = refl

pub encoding-number : (k d : ℕ) (r : Result ℕ EncodeError) → r ≡ encode_of k d → encoded_number r ≡ encoding_number k d
unfolding encoded_number encode_error_number encoding_number encode_of
encoding-number k d r e = rw e (go (allowed k d))
  where
    go : (b : Bool) → encoded_number (cond b (Ok (word_of k d)) (Err encoding.OutOfRange)) ≡ cond (not b) 24 0
    go true = refl
    go false = refl

-- the kind of an identifier i, and of one that no kind has
pub kind_at : (w i k : ℕ) → w / 1024 ≡ i → k ≡ kind_of i → k ≡ kind_of (w / 1024)
kind_at w i k e is = rw e is

pub no_kind : (w : ℕ) → Others kind_of 28 (w / 1024) 64 → w < 65536 → 28 ≡ kind_of (w / 1024)
no_kind w o h = others-at kind_of 28 (w / 1024) 64 o (omega arith)

-- the three ways through the judging of data d under kind k
module _ (k d : ℕ) where
  pub meaning-unknown : 28 ≤ k → Err Unknown ≡ meaning_of k d
  unfolding kinds
  meaning-unknown e = simp (le-ltb k 28 e)

  module _ (b : Bool) (e : k < 28) (is : b ≡ allowed k d) where
    pub meaning-word : b ≡ true → Ok (word k d) ≡ meaning_of k d
    unfolding judged kinds
    meaning-word is_true = simp (lt-ltb k 28 e, ← is, is_true)

    pub meaning-out : b ≡ false → Err (OutOfRange k) ≡ meaning_of k d
    unfolding judged kinds
    meaning-out is_false = simp (lt-ltb k 28 e, ← is, is_false)

-- and through the decoder: k is the kind of the identifier, b whether its data are allowed
module _ (w k : ℕ) (kind : k ≡ kind_of (identifier w)) where
  pub decode-unknown : 28 ≤ k → Err Unknown ≡ decode_of w
  unfolding decode_of
  decode-unknown e = meaning-unknown k (bits_of w) e ∙ ap (λ (n : ℕ). meaning_of n (bits_of w)) kind

  module _ (b : Bool) (e : k < 28) (is : b ≡ allowed k (bits_of w)) where
    pub decode-word : b ≡ true → Ok (word k (bits_of w)) ≡ decode_of w
    unfolding decode_of
    decode-word is_true = meaning-word k (bits_of w) b e is is_true ∙ ap (λ (n : ℕ). meaning_of n (bits_of w)) kind

    pub decode-out : b ≡ false → Err (OutOfRange k) ≡ decode_of w
    unfolding decode_of
    decode-out is_false = meaning-out k (bits_of w) b e is is_false ∙ ap (λ (n : ℕ). meaning_of n (bits_of w)) kind

-- a table of the identifiers encodes
module _ (k d : ℕ) (b : Bool) (is : b ≡ allowed k d) where
  pub encode-refused : b ≡ false → Err encoding.OutOfRange ≡ encode_of k d
  unfolding encode_of
  encode-refused is_false = simp (← is, is_false)

  module _ (t : List ℕ) (is_true : b ≡ true) where
    pub encode-made : T (tabulates t (λ k. identifier (row_of k).first) 28) → Ok (get_or t k 0 * 1024 + d) ≡ encode_of k d
    unfolding encode_of word_of
    encode-made ok =
        let kind = allowed-kind k d (sym is ∙ is_true) in
        simp (← is, is_true, tabulates-at t (λ k. identifier (row_of k).first) 28 ok k kind)

    pub encode-fits : T (below 64 t) → Fits w16 (get_or t k 0 * 1024 + d)
    encode-fits ok = record { fits = omega (arith, below_at 64 t ok k, allowed-bits k d (sym is ∙ is_true)) }

pub identifier-fits : (t : List ℕ) (k : ℕ) → T (below 64 t) → Fits w16 (get_or t k 0 * 1024)
identifier-fits t k ok = record { fits = omega (arith, below_at 64 t ok k) }

-- what a decoded word says: the kind of its identifier, its data, and that they are allowed
pub record Read (w k d : ℕ) : Type 0 where
  pub kind : k ≡ kind_of (identifier w)
  pub bits : d ≡ bits_of w
  pub known : k < 28
  pub fine : allowed k d ≡ true

pub decode-read : (w k d : ℕ) → decode_of w ≡ Ok (word k d) → Read w k d
unfolding decode_of judged kinds
decode-read w k d e = go (ltb (kind_of (identifier w)) 28) refl (allowed (kind_of (identifier w)) (bits_of w)) refl
  where
    differ : {A : Type 0} → ◌≡◌ {A = ℕ} 0 1 → A
    differ z = absurd (omega arith)

    go : (a : Bool) → ltb (kind_of (identifier w)) 28 ≡ a → (b : Bool) → allowed (kind_of (identifier w)) (bits_of w) ≡ b → Read w k d
    go false p b q = differ (cc (rw p at e))
    go true p false q = differ (cc (rw (p, q) at e))
    go true p true q =
        let same = rw (p, q) at e in
        let words : word (kind_of (identifier w)) (bits_of w) ≡ word k d = cc in
        let kind : kind_of (identifier w) ≡ k = ap (λ (v : Word). v.kind) words in
        let bits : bits_of w ≡ d = ap (λ (v : Word). v.bits) words in
        record { kind = sym kind; bits = sym bits; known = rw kind at (ltb-true (kind_of (identifier w)) 28 p); fine = rw (kind, bits) at q }

-- each kind's identifier leads back to the kind, and each known identifier is its kind's
there : T (agree (λ k. kind_of (identifier (row_of k).first)) (λ k. k) 28)
unfolding kind_of kind_from rows
there = tt

back : T (agree (λ i. cond (ltb (kind_of i) 28) (identifier (row_of (kind_of i)).first) i) (λ i. i) 64)
unfolding kind_of kind_from rows
back = tt

-- what was decoded encodes to the same word
pub decode-encode : (w k d : ℕ) → w < 65536 → decode_of w ≡ Ok (word k d) → encode_of k d ≡ Ok w
unfolding encode_of word_of
decode-encode w k d h e =
    let r = decode-read w k d e in
    let known : ltb (kind_of (identifier w)) 28 ≡ true = lt-ltb (kind_of (identifier w)) 28 (rw r.kind at r.known) in
    let same = agree_at (λ i. cond (ltb (kind_of i) 28) (identifier (row_of (kind_of i)).first) i) (λ i. i) 64 back (identifier w) (omega arith) in
    let own : identifier (row_of k).first ≡ identifier w = rw r.kind (rw known at same) in
    rw (r.fine, own, r.bits) (ap Ok (div-add-mod' w 1024))

-- what was encoded decodes to the same kind and data
pub encode-decode : (w k d : ℕ) → encode_of k d ≡ Ok w → decode_of w ≡ Ok (word k d)
unfolding encode_of word_of decode_of judged kinds
encode-decode w k d e = go (allowed k d) refl
  where
    i : ℕ
    i = identifier (row_of k).first

    go : (b : Bool) → allowed k d ≡ b → decode_of w ≡ Ok (word k d)
    go false p = let z : ◌≡◌ {A = ℕ} 0 1 = cc (rw p at e) in absurd (omega arith)
    go true p =
        let made = rw p at e in
        let is : i * 1024 + d ≡ w = cc in
        let known = allowed-kind k d p in
        let bits = allowed-bits k d p in
        let own = agree_at (λ k. kind_of (identifier (row_of k).first)) (λ k. k) 28 there k known in
        rw (← is, digits_div i {m = 1024} bits, digits_mod i {m = 1024} bits, own, lt-ltb k 28 known, p)
