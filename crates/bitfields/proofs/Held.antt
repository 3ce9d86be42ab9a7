-- A word that is composed of values holds them, each in its field's width.
-- Assumes nothing.
use Rattle.std.proofs.Common.{◌≡◌, ℕ, ◌+◌, ◌-◌, ◌/◌, ◌%◌, ◌^◌, ◌<◌, Bool, true, false, List, [], ◌∷◌, length, sym, refl, ap, ◌∙◌, ap₂, true≢false, arith}
use Rattle.std.proofs.lemmas.Bool.{and_parts}
use Rattle.bitfields.specs.declared.Field.{Field}
use Rattle.bitfields.specs.Fields.{composed, values_in, bit_at, has_bit, bit_put}
use Rattle.bitfields.proofs.Bits.{bit-shr, same_bits}
use Rattle.bitfields.proofs.Apart.{apart, all_apart, some_has, has_within, no-other-has}
use Rattle.bitfields.proofs.Written.{bits-written}

-- what the fields hold of values
unfoldable pub held : List Field → List ℕ → List ℕ
held [] vs = []
held (f ∷ fs) [] = []
held (f ∷ fs) (v ∷ vs) = v % 2 ^ f.width ∷ held fs vs

-- a word that has in the fields' bits what the table puts there
module _ (f : Field) (fs : List Field) (v : ℕ) (vs : List ℕ) (w : ℕ) (h : (b : ℕ) → some_has (f ∷ fs) b ≡ true → bit_at w b ≡ bit_put (f ∷ fs) (v ∷ vs) b) where
  first-put : (d : ℕ) → d < f.width → bit_at (w / 2 ^ f.lowest) d ≡ bit_at v d
  unfolding some_has bit_put
  first-put d l =
      let has = has_within f (f.lowest + d) (omega arith) (omega arith) in
      let put : bit_at w (f.lowest + d) ≡ bit_at v (f.lowest + d - f.lowest) = rw has at (h (f.lowest + d) (rw has)) in
      bit-shr w f.lowest d ∙ put ∙ ap (bit_at v) (omega arith)

  rest_put : apart f fs ≡ true → (b : ℕ) (t : Bool) → has_bit f b ≡ t → some_has fs b ≡ true → bit_at w b ≡ bit_put fs vs b
  unfolding some_has bit_put
  rest_put e b true has some = absurd (true≢false (sym some ∙ no-other-has f fs b e has))
  rest_put e b false has some = rw has at (h b (rw has some))

holds-put : (fs : List Field) (vs : List ℕ) (w : ℕ) → all_apart fs ≡ true → length vs ≡ length fs
    → ((b : ℕ) → some_has fs b ≡ true → bit_at w b ≡ bit_put fs vs b) → values_in fs w ≡ held fs vs
unfolding all_apart values_in held
holds-put [] vs w e sized h = refl
holds-put (f ∷ fs) [] w e sized h = absurd (omega arith)
holds-put (f ∷ fs) (v ∷ vs) w e sized h =
    let first = (and_parts (apart f fs) (all_apart fs) e).0 in
    let later = (and_parts (apart f fs) (all_apart fs) e).1 in
    ap₂ (λ (x : ℕ) (xs : List ℕ). x ∷ xs) (same_bits f.width (w / 2 ^ f.lowest) v (first-put f fs v vs w h))
    (holds-put fs vs w later (omega arith) (λ b. rest_put f fs v vs w h first b (has_bit f b) refl))

pub composed-holds : (fs : List Field) (vs : List ℕ) → all_apart fs ≡ true → length vs ≡ length fs → values_in fs (composed fs vs) ≡ held fs vs
composed-holds fs vs e sized = holds-put fs vs (composed fs vs) e sized (λ b some. bits-written fs vs e b)
