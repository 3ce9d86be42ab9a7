-- The word that is composed of values, bit by bit.
-- Assumes nothing.
use Rattle.std.proofs.Common.{◌≡◌, ℕ, zero, suc, ◌+◌, ◌-◌, ◌*◌, ◌%◌, ◌^◌, ◌≤◌, Bool, true, false, cond, ◌&&◌, ltb, leb, List, [], ◌∷◌, refl, ap, ◌∙◌, add-zero, mod-lt, mod-eq_of_lt, zero-add, arith, pow_pos, ltb-false, ltb-true, leb-false, leb-true}
use Rattle.std.proofs.lemmas.Bool.{and_parts, or_parts}
use Rattle.bitfields.specs.declared.Field.{Field}
use Rattle.bitfields.specs.Fields.{placed_in, composed, bit_at, has_bit, bit_put, drawn}
use Rattle.bitfields.proofs.Bits.{bit-most, bit-shl, bit_below, bit_kept, bit-over, bit-sum, bits_below}
use Rattle.bitfields.proofs.Apart.{above, apart, all_apart, some_has, has_within, has-not-below, has-not-above, no-other-has}

-- a value in its field
module _ (f : Field) (v b : ℕ) where
  placed-bit : bit_at (placed_in f v) b ≡ cond (has_bit f b) (bit_at v (b - f.lowest)) 0
  placed-bit = go (leb f.lowest b) (ltb b (above f)) refl refl
    where
      kept : ℕ
      kept = v % 2 ^ f.width

      up : f.lowest ≤ b → bit_at (kept * 2 ^ f.lowest) b ≡ bit_at kept (b - f.lowest)
      up h = ap (bit_at (kept * 2 ^ f.lowest)) (omega arith) ∙ bit-shl kept f.lowest (b - f.lowest)

      go : (p q : Bool) → leb f.lowest b ≡ p → ltb b (above f) ≡ q
          → bit_at (kept * 2 ^ f.lowest) b ≡ cond (has_bit f b) (bit_at v (b - f.lowest)) 0
      go false q e e' =
          let h = leb-false f.lowest b e in
          rw (has-not-below f b h) (bit_below kept f.lowest b h)
      go true true e e' =
          let h = leb-true f.lowest b e in
          let h' = ltb-true b (above f) e' in
          rw (has_within f b h h') (up h ∙ bit_kept v f.width (b - f.lowest) (omega arith))
      go true false e e' =
          let h = leb-true f.lowest b e in
          let h' = ltb-false b (above f) e' in
          rw (has-not-above f b h') (up h ∙ bit-over kept f.width (b - f.lowest) (mod-lt v (pow_pos f.width)) (omega arith))

-- nothing is put where no field stands
put-nothing : (fs : List Field) (vs : List ℕ) (b : ℕ) → some_has fs b ≡ false → bit_put fs vs b ≡ 0
unfolding some_has bit_put
put-nothing [] vs b e = refl
put-nothing (f ∷ fs) [] b e = refl
put-nothing (f ∷ fs) (v ∷ vs) b e = rw (or_parts (has_bit f b) (some_has fs b) e).0 (put-nothing fs vs b (or_parts (has_bit f b) (some_has fs b) e).1)

-- one field more
module _ (f : Field) (fs : List Field) (v : ℕ) (vs : List ℕ) (e : apart f fs ≡ true) (later : (b : ℕ) → bit_at (composed fs vs) b ≡ bit_put fs vs b) where
  no-carry : (b : ℕ) (t : Bool) → has_bit f b ≡ t → bit_at (placed_in f v) b + bit_at (composed fs vs) b ≤ 1
  no-carry b true has = rw (later b, put-nothing fs vs b (no-other-has f fs b e has), add-zero (bit_at (placed_in f v) b)) (bit-most (placed_in f v) b)
  no-carry b false has = rw (placed-bit f v b, has, zero-add (bit_at (composed fs vs) b)) (bit-most (composed fs vs) b)

  with-field : (b : ℕ) (t : Bool) → has_bit f b ≡ t
      → bit_at (placed_in f v) b + bit_at (composed fs vs) b ≡ cond (has_bit f b) (bit_at v (b - f.lowest)) (bit_put fs vs b)
  with-field b true has =
      rw (placed-bit f v b, has, later b, put-nothing fs vs b (no-other-has f fs b e has)) (add-zero (bit_at v (b - f.lowest)))
  with-field b false has = rw (placed-bit f v b, has, later b) (zero-add (bit_put fs vs b))

-- The written word has in each bit what the table puts there.
pub bits-written : (fs : List Field) (vs : List ℕ) → all_apart fs ≡ true → (b : ℕ) → bit_at (composed fs vs) b ≡ bit_put fs vs b
unfolding composed bit_put all_apart
bits-written [] vs e b = bit-over 0 0 b (omega arith) (omega arith)
bits-written (f ∷ fs) [] e b = bit-over 0 0 b (omega arith) (omega arith)
bits-written (f ∷ fs) (v ∷ vs) e b =
    let first = (and_parts (apart f fs) (all_apart fs) e).0 in
    let later = bits-written fs vs (and_parts (apart f fs) (all_apart fs) e).1 in
    bit-sum b (placed_in f v) (composed fs vs) (λ d. no-carry f fs v vs first later d (has_bit f d) refl)
    ∙ with-field f fs v vs first later b (has_bit f b) refl

-- what a table puts into the n lowest bits
unfoldable pub drawn_put : List Field → List ℕ → ℕ → List ℕ
drawn_put fs vs zero = []
drawn_put fs vs (suc n) = bit_put fs vs n ∷ drawn_put fs vs n

pub drawn-written : (fs : List Field) (vs : List ℕ) → all_apart fs ≡ true → (n : ℕ) → drawn n (composed fs vs) ≡ drawn_put fs vs n
unfolding drawn drawn_put
drawn-written fs vs e zero = refl
drawn-written fs vs e (suc n) = rw (bits-written fs vs e n, drawn-written fs vs e n)

-- each field stands below bit n
unfoldable pub all_below : ℕ → List Field → Bool
all_below n [] = true
all_below n (f ∷ fs) = leb (above f) n && all_below n fs

none_above : (n : ℕ) (fs : List Field) → all_below n fs ≡ true → (b : ℕ) → n ≤ b → some_has fs b ≡ false
unfolding all_below some_has
none_above n [] e b h = refl
none_above n (f ∷ fs) e b h =
    let top = leb-true (above f) n (and_parts (leb (above f) n) (all_below n fs) e).0 in
    rw (has-not-above f b (omega arith)) (none_above n fs (and_parts (leb (above f) n) (all_below n fs) e).1 b h)

pub composed-fits : (n : ℕ) (fs : List Field) (vs : List ℕ) → all_apart fs ≡ true → all_below n fs ≡ true → composed fs vs % 2 ^ n ≡ composed fs vs
composed-fits n fs vs e below =
    mod-eq_of_lt (bits_below n (composed fs vs) (λ b h. bits-written fs vs e b ∙ put-nothing fs vs b (none_above n fs below b h)))
