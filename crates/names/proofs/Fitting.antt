-- The table has room in 16,384 bytes. In a byte's line a bound stands at few lower bytes only: the first and the last, those with the least and
-- the greatest data of the kind, and of COVER those with no steps and with the most.
-- Assumes nothing.
use mathlib.Core.Path.{◌≡◌, refl, sym, ap, ◌∙◌}
use mathlib.Core.Bool.{Bool, true, false, cond, not, ◌&&◌, ◌||◌}
use mathlib.Core.List.{List, [], ◌∷◌, ◌++◌}
use Prim.Native.Nat.{ℕ, zero, suc, ◌+◌, ◌-◌, ◌*◌, ◌/◌, ◌%◌, ◌^◌, ◌≤◌, ◌<◌}
use native.Mathlib.Nat.{le_of_suc-le-suc, not-suc-le-zero}
use native.Mathlib.Omega.{arith}
use native.Mathlib.Decide.{ℕ_discrete}
use borrow.Author.Tests.{eq-eqb, ne_eqb, eqb-true, lt-ltb, ltb-true, ltb-false, leb-true, leb-false, not-true}
use lib.Dec.{leb, ltb, eqb, lit<}
use lib.ListN.{length, get_or, length-append}
use Rattle.words.specs.Kinds.{least, greatest, kind_of, allowed, identifier, bits_of, cover, most_steps, kinds}
use Rattle.words.specs.Codec.{finding_number}
use Rattle.words.specs.UpperByte.{kind_of_byte}
use Rattle.words.proofs.Allowed.{allowed-none}
use Rattle.words.proofs.Tests.{and_left, and_right, or_left, or_right}
use Rattle.layout.specs.Below.{texts_below}
use Rattle.layout.specs.Numbers.{bit, ascii, hex_of}
use Rattle.layout.proofs.Alternatives.{most_from, most_of, layout-most}
use Rattle.names.specs.Kind.{kind_template, kind_name}
use Rattle.names.specs.Table.{word_at, is_allowed, is_first, bound_text, any_below, ranges_text, gap_text, byte_text, name_text, row_text, table_text}

-- how many of these places are l, and how many are below n
unfoldable hits : List ℕ → ℕ → ℕ
hits [] l = 0
hits (p ∷ ps) l = bit (eqb p l) + hits ps l

unfoldable passed : List ℕ → ℕ → ℕ
passed [] n = 0
passed (p ∷ ps) n = bit (ltb p n) + passed ps n

passed-few : (ps : List ℕ) (n : ℕ) → passed ps n ≤ length ps
unfolding passed
passed-few [] n = omega arith
passed-few (p ∷ ps) n = go (ltb p n) (passed-few ps n)
  where
    go : (x : Bool) → passed ps n ≤ length ps → bit x + passed ps n ≤ suc (length ps)
    go true h = omega arith
    go false h = omega arith

passed-next : (ps : List ℕ) (l : ℕ) → passed ps l + hits ps l ≤ passed ps (suc l)
unfolding passed hits
passed-next [] l = omega arith
passed-next (p ∷ ps) l = go (ltb p l) refl (eqb p l) refl (passed-next ps l)
  where
    go : (x : Bool) → ltb p l ≡ x → (y : Bool) → eqb p l ≡ y → passed ps l + hits ps l ≤ passed ps (suc l)
        → bit (ltb p l) + passed ps l + (bit (eqb p l) + hits ps l) ≤ bit (ltb p (suc l)) + passed ps (suc l)
    go true a true b h = let less = ltb-true p l a in let same = eqb-true p l b in absurd (omega arith)
    go true a false b h = rw (a, b, lt-ltb p (suc l) (let less = ltb-true p l a in omega arith)) (omega arith)
    go false a true b h = rw (a, b, lt-ltb p (suc l) (let same = eqb-true p l b in omega arith)) (omega arith)
    go false a false b h = rw (a, b) (omega arith)

hits_at : (ps : List ℕ) (l i : ℕ) → i < length ps → get_or ps i 0 ≡ l → 1 ≤ hits ps l
unfolding hits
hits_at [] l i h e = absurd (not-suc-le-zero h)
hits_at (p ∷ ps) l zero h e = rw (eq-eqb p l e) (omega arith)
hits_at (p ∷ ps) l (suc i) h e = omega (arith, hits_at ps l i (le_of_suc-le-suc h) e)

-- the data of the first word with upper byte b
abbrev base : ℕ → ℕ
base b = b % 4 * 256

abbrev points : ℕ → List ℕ
points b = 0 ∷ 255 ∷ 128 ∷ most_steps ∷ (128 + most_steps) ∷ (least (kind_of_byte b) - base b) ∷ (greatest (kind_of_byte b) - base b) ∷ []

-- a word with upper byte b is allowed where its kind allows its data
found-allowed : (k d : ℕ) → eqb (cond (not (ltb k kinds)) 23 (cond (not (allowed k d)) 24 0)) 0 ≡ allowed k d
unfolding kinds
found-allowed k d = go (ltb k 28) refl (allowed k d) refl
  where
    go : (x : Bool) → ltb k 28 ≡ x → (y : Bool) → allowed k d ≡ y → eqb (cond (not (ltb k 28)) 23 (cond (not (allowed k d)) 24 0)) 0 ≡ allowed k d
    go true p true q = rw (p, q)
    go true p false q = rw (p, q)
    go false p y q = rw p (allowed-none k d (ltb-false k 28 p))

module _ (b l : ℕ) (few : l < 256) where
  same_kind : kind_of (identifier (word_at b l)) ≡ kind_of_byte b
  unfolding kind_of_byte
  same_kind = let e : word_at b l / 1024 ≡ b * 256 / 1024 = omega arith in rw e

  same_bits : bits_of (word_at b l) ≡ base b + l
  same_bits = omega arith

  allowed-is : is_allowed b l ≡ allowed (kind_of_byte b) (base b + l)
  unfolding is_allowed finding_number
  allowed-is = rw (lt-ltb l 256 few, same_kind, same_bits) (found-allowed (kind_of_byte b) (base b + l))

-- why data are allowed, and why not
abbrev fitting : ℕ → ℕ → Bool
fitting k d = not (eqb k cover) || leb (d % 128) most_steps

record Within (k d : ℕ) : Type 0 where
  low : least k ≤ d
  high : d ≤ greatest k
  stepped : fitting k d ≡ true

allowed-within : (k d : ℕ) → allowed k d ≡ true → Within k d
unfolding allowed
allowed-within k d e =
    let both = and_left (leb (least k) d && leb d (greatest k)) (fitting k d) e in
    record {
      low = leb-true (least k) d (and_left (leb (least k) d) (leb d (greatest k)) both);
      high = leb-true d (greatest k) (and_right (leb (least k) d) (leb d (greatest k)) both);
      stepped = and_right (leb (least k) d && leb d (greatest k)) (fitting k d) e;
    }

data Outside (k d : ℕ) : Type 0 where
  below : d < least k → Outside k d
  above : greatest k < d → Outside k d
  between : fitting k d ≡ false → Outside k d

allowed-outside : (k d : ℕ) → allowed k d ≡ false → Outside k d
unfolding allowed
allowed-outside k d e = go (leb (least k) d) refl (leb d (greatest k)) refl
  where
    go : (x : Bool) → leb (least k) d ≡ x → (y : Bool) → leb d (greatest k) ≡ y → Outside k d
    go false p y q = below (leb-false (least k) d p)
    go true p false q = above (leb-false d (greatest k) q)
    go true p true q = between (rw (p, q) at e)

-- data d fit and c do not: this is COVER, and these are their steps
module _ (k d c : ℕ) (fits : fitting k d ≡ true) (not-fits : fitting k c ≡ false) where
  fewer : d % 128 ≤ most_steps
  fewer = leb-true (d % 128) most_steps (rw (or_left (not (eqb k cover)) (leb (c % 128) most_steps) not-fits) at fits)

  more : most_steps < c % 128
  more = leb-false (c % 128) most_steps (or_right (not (eqb k cover)) (leb (c % 128) most_steps) not-fits)

module _ (b l : ℕ) (few : l < 256) (is : is_allowed b l ≡ true) where
  here : Within (kind_of_byte b) (base b + l)
  here = allowed-within (kind_of_byte b) (base b + l) (sym (allowed-is b l few) ∙ is)

  begins-after : (l ≡ 0 → ⊥) → Outside (kind_of_byte b) (base b + (l - 1)) → 1 ≤ hits (points b) l
  begins-after e (below h) = hits_at (points b) l 5 (lit< tt) (let low = here.low in omega arith)
  begins-after e (above h) = absurd (let high = here.high in omega arith)
  begins-after e (between h) =
      let m = fewer (kind_of_byte b) (base b + l) (base b + (l - 1)) here.stepped h in
      let n = more (kind_of_byte b) (base b + l) (base b + (l - 1)) here.stepped h in
      hits_at (points b) l 2 (lit< tt) (omega arith)

  begins : is_first b l ≡ true → 1 ≤ hits (points b) l
  unfolding is_first
  begins first = go (ℕ_discrete l 0)
    where
      go : Dec (l ≡ 0) → 1 ≤ hits (points b) l
      go (yes e) = hits_at (points b) l 0 (lit< tt) (sym e)
      go (no e) =
          let none : is_allowed b (l - 1) ≡ false = not-true (is_allowed b (l - 1)) (rw (ne_eqb l 0 e) at first) in
          begins-after e (allowed-outside (kind_of_byte b) (base b + (l - 1)) (sym (allowed-is b (l - 1) (omega arith)) ∙ none))

  ends-before : Outside (kind_of_byte b) (base b + (l + 1)) → 1 ≤ hits (points b) l
  ends-before (below h) = absurd (let low = here.low in omega arith)
  ends-before (above h) = hits_at (points b) l 6 (lit< tt) (let high = here.high in omega arith)
  ends-before (between h) =
      let m = fewer (kind_of_byte b) (base b + l) (base b + (l + 1)) here.stepped h in
      let n = more (kind_of_byte b) (base b + l) (base b + (l + 1)) here.stepped h in
      go m n (ℕ_discrete l most_steps)
    where
      go : (base b + l) % 128 ≤ most_steps → most_steps < (base b + (l + 1)) % 128 → Dec (l ≡ most_steps) → 1 ≤ hits (points b) l
      go m n (yes e) = hits_at (points b) l 3 (lit< tt) (sym e)
      go m n (no e) = hits_at (points b) l 4 (lit< tt) (omega arith)

  ends : is_allowed b (l + 1) ≡ false → 1 ≤ hits (points b) l
  ends none = go (ℕ_discrete l 255)
    where
      go : Dec (l ≡ 255) → 1 ≤ hits (points b) l
      go (yes e) = hits_at (points b) l 1 (lit< tt) (sym e)
      go (no e) =
          ends-before (allowed-outside (kind_of_byte b) (base b + (l + 1)) (sym (allowed-is b (l + 1) (omega arith)) ∙ none))

bound-few : (b l : ℕ) → l < 256 → length (bound_text b l) ≤ 5 * hits (points b) l
unfolding bound_text hex_of
bound-few b l few = go (is_allowed b l) refl (is_first b l) refl (is_allowed b (l + 1)) refl
  where
    go : (x : Bool) → is_allowed b l ≡ x → (y : Bool) → is_first b l ≡ y → (z : Bool) → is_allowed b (l + 1) ≡ z
        → length (bound_text b l) ≤ 5 * hits (points b) l
    go false p y q z r = rw p (omega arith)
    go true p true q z r = rw (p, q) (omega (arith, begins b l few p q))
    go true p false q true r = rw (p, q, r) (omega arith)
    go true p false q false r = rw (p, q, r) (omega (arith, ends b l few p r))

bounds-few : (b n : ℕ) → n ≤ 256 → length (texts_below (bound_text b) n) ≤ 5 * passed (points b) n
unfolding texts_below
bounds-few b zero h = omega arith
bounds-few b (suc n) h =
    omega (
      arith,
      length-append (texts_below (bound_text b) n) (bound_text b n),
      bounds-few b n (omega arith),
      bound-few b n (omega arith),
      passed-next (points b) n,
    )

ranges-few : (b : ℕ) → length (ranges_text b) ≤ 35
unfolding ranges_text ascii
ranges-few b = go (any_below b 256)
  where
    go : (x : Bool) → length (cond x (texts_below (bound_text b) 256) (ascii " none")) ≤ 35
    go true = omega (arith, bounds-few b 256 (omega arith), passed-few (points b) 256)
    go false = omega arith

gap-few : (b : ℕ) → length (gap_text b) ≤ 1
unfolding gap_text ascii
gap-few b = go (eqb (b % 16) 0)
  where
    go : (x : Bool) → length (cond x (ascii "\n") []) ≤ 1
    go true = omega arith
    go false = omega arith

-- the columns of a kind's name
abbrev pub most_kind : ℕ
most_kind = 13

most-kind : most_of kind_template ≤ most_kind
unfolding most_from ascii kind_template
most-kind = leb-true (most_of kind_template) most_kind refl

pub kind-few : (k : ℕ) → length (kind_name k) ≤ most_kind
unfolding kind_name
kind-few k = omega (arith, layout-most kind_template (k ∷ []) [], most-kind)

row-few : (b : ℕ) → length (row_text b) ≤ 56
unfolding row_text name_text byte_text hex_of ascii
row-few b =
    let byte = byte_text b in
    let space = ascii "    " in
    let kind = kind_name (kind_of_byte b) in
    omega (
      arith,
      length-append (gap_text b ++ (byte ++ space ++ kind) ++ ranges_text b) (ascii "\n"),
      length-append (gap_text b ++ (byte ++ space ++ kind)) (ranges_text b),
      length-append (gap_text b) (byte ++ space ++ kind),
      length-append (byte ++ space) kind,
      length-append byte space,
      gap-few b,
      kind-few (kind_of_byte b),
      ranges-few b,
    )

rows_few : (n : ℕ) → length (texts_below row_text n) ≤ 56 * n
unfolding texts_below
rows_few zero = omega arith
rows_few (suc n) = omega (arith, length-append (texts_below row_text n) (row_text n), rows_few n, row-few n)

pub table_fits : length table_text ≤ 16384
unfolding table_text ascii
table_fits = omega (arith, length-append (ascii "byte  kind          allowed words\n") (texts_below row_text 256), rows_few 256)

pub table-small : length table_text < 2 ^ 32
table-small = omega (arith, table_fits)
