-- Tables of fields that stand apart: no two fields of such a table share a bit.
-- Assumes nothing.
use Rattle.std.proofs.Common.{◌≡◌, ℕ, zero, suc, ◌+◌, ◌<◌, ◌≤◌, Bool, true, false, ◌&&◌, ◌||◌, ltb, leb, List, [], ◌∷◌, length, get_or, sym, refl, ap, ◌∙◌, true≢false, arith, ltb-true, le-ltb, lt-ltb, le-leb, leb-true}
use mathlib.Core.Bool.{and-false, or-true}
use borrow.Author.Tests.{lt-leb}
use Rattle.std.proofs.lemmas.Bool.{and_parts}
use Rattle.bitfields.specs.declared.Field.{Field}
use Rattle.bitfields.specs.Fields.{field, has_bit, NoBitShared}

-- the first bit above a field
abbrev pub above : Field → ℕ
above f = f.lowest + f.width

-- The test: of any two fields, one stands above the other.
unfoldable pub apart : Field → List Field → Bool
apart f [] = true
apart f (g ∷ gs) = (leb (above f) g.lowest || leb (above g) f.lowest) && apart f gs

unfoldable pub all_apart : List Field → Bool
all_apart [] = true
all_apart (f ∷ fs) = apart f fs && all_apart fs

-- whether some field has bit b
unfoldable pub some_has : List Field → ℕ → Bool
some_has [] b = false
some_has (f ∷ fs) b = has_bit f b || some_has fs b

-- bits of one field
module _ (f : Field) (b : ℕ) where
  has-from : has_bit f b ≡ true → f.lowest ≤ b
  unfolding has_bit
  has-from e = leb-true f.lowest b (and_parts (leb f.lowest b) (ltb b (above f)) e).0

  has-to : has_bit f b ≡ true → b < above f
  unfolding has_bit
  has-to e = ltb-true b (above f) (and_parts (leb f.lowest b) (ltb b (above f)) e).1

  pub has_within : f.lowest ≤ b → b < above f → has_bit f b ≡ true
  unfolding has_bit
  has_within from to = rw (le-leb f.lowest b from, lt-ltb b (above f) to)

  pub has-not-below : b < f.lowest → has_bit f b ≡ false
  unfolding has_bit
  has-not-below h = rw (lt-leb f.lowest b h)

  pub has-not-above : above f ≤ b → has_bit f b ≡ false
  unfolding has_bit
  has-not-above h = rw (le-ltb b (above f) h) (and-false (leb f.lowest b))

-- of two fields that are apart one alone has a bit
one_has : (f g : Field) (b : ℕ) → (leb (above f) g.lowest || leb (above g) f.lowest) ≡ true → has_bit f b ≡ true → has_bit g b ≡ false
one_has f g b e has = go (leb (above f) g.lowest) refl (has-from f b has) (has-to f b has)
  where
    go : (p : Bool) → leb (above f) g.lowest ≡ p → f.lowest ≤ b → b < above f → has_bit g b ≡ false
    go true h from to = let over = leb-true (above f) g.lowest h in has-not-below g b (omega arith)
    go false h from to = let under = leb-true (above g) f.lowest (rw h at e) in has-not-above g b (omega arith)

pub no-other-has : (f : Field) (fs : List Field) (b : ℕ) → apart f fs ≡ true → has_bit f b ≡ true → some_has fs b ≡ false
unfolding apart some_has
no-other-has f [] b e has = refl
no-other-has f (g ∷ gs) b e has =
    let t = leb (above f) g.lowest || leb (above g) f.lowest in
    rw (one_has f g b (and_parts t (apart f gs) e).0 has) (no-other-has f gs b (and_parts t (apart f gs) e).1 has)

some-has : (fs : List Field) (j b : ℕ) → j < length fs → has_bit (get_or fs j (field 0 0)) b ≡ true → some_has fs b ≡ true
unfolding some_has
some-has [] j b h has = absurd (omega arith)
some-has (f ∷ fs) zero b h has = rw has
some-has (f ∷ fs) (suc j) b h has = rw (some-has fs j b (omega arith) has) (or-true (has_bit f b))

not-both : (f : Field) (fs : List Field) (j b : ℕ) → apart f fs ≡ true → j < length fs → has_bit f b ≡ true
    → has_bit (get_or fs j (field 0 0)) b ≡ true → ⊥
not-both f fs j b e h has has' = true≢false (sym (some-has fs j b h has') ∙ no-other-has f fs b e has)

-- No two fields share a bit.
pub no-bit-shared : (fs : List Field) → all_apart fs ≡ true → NoBitShared fs
unfolding NoBitShared all_apart
no-bit-shared [] e i j b hi hj has has' = absurd (omega arith)
no-bit-shared (f ∷ fs) e zero zero b hi hj has has' = refl
no-bit-shared (f ∷ fs) e zero (suc j) b hi hj has has' =
    absurd (not-both f fs j b (and_parts (apart f fs) (all_apart fs) e).0 (omega arith) has has')
no-bit-shared (f ∷ fs) e (suc i) zero b hi hj has has' =
    absurd (not-both f fs i b (and_parts (apart f fs) (all_apart fs) e).0 (omega arith) has' has)
no-bit-shared (f ∷ fs) e (suc i) (suc j) b hi hj has has' =
    ap suc (no-bit-shared fs (and_parts (apart f fs) (all_apart fs) e).1 i j b (omega arith) (omega arith) has has')
