-- The bits of a byte: the language's count of them is the number that are set, from the top bit on.
-- Assumes nothing.
use mathlib.Core.Path.{◌≡◌, sym, ap, ◌∙◌}
use mathlib.Core.Bool.{cond}
use mathlib.Core.List.{List}
use Prim.Native.Nat.{ℕ, ◌+◌, ◌-◌, ◌*◌, ◌/◌, ◌%◌, ◌^◌, ◌<◌}
use native.Mathlib.Nat.{add-zero, div-one, div-div-eq-div-mul}
use native.Mathlib.Decide.{ℕ_discrete}
use native.Mathlib.Omega.{arith}
use borrow.Author.Tests.{eq-eqb, ne_eqb}
use lib.Arith.{mod-mul}
use lib.Count.{ones, ones_step}
use lib.Dec.{eqb, lit<}
use lib.ListN.{get_or}
use Rattle.pixels.specs.Map.{is_set, how_many}

-- a number of two digits, b and the rest
step : (b d : ℕ) → ones (b / d) ≡ b / d % 2 + ones (b / (d * 2))
step b d = ones_step (b / d) ∙ ap (λ (x : ℕ). b / d % 2 + ones x) (div-div-eq-div-mul b d 2)

byte-ones : (b : ℕ) → b < 256
    → ones b ≡ b / 1 % 2 + (b / 2 % 2 + (b / 4 % 2 + (b / 8 % 2 + (b / 16 % 2 + (b / 32 % 2 + (b / 64 % 2 + b / 128 % 2))))))
unfolding ones
byte-ones b h =
    let none : b / 256 ≡ 0 = omega arith in
    let no_more : b / 128 % 2 + ones 0 ≡ b / 128 % 2 = add-zero (b / 128 % 2) in
    ap ones (sym (div-one b)) ∙ step b 1
    ∙ ap (λ (x : ℕ). b / 1 % 2 + x) (step b 2
    ∙ ap (λ (x : ℕ). b / 2 % 2 + x) (step b 4
    ∙ ap (λ (x : ℕ). b / 4 % 2 + x) (step b 8
    ∙ ap (λ (x : ℕ). b / 8 % 2 + x) (step b 16
    ∙ ap (λ (x : ℕ). b / 16 % 2 + x) (step b 32
    ∙ ap (λ (x : ℕ). b / 32 % 2 + x) (step b 64
    ∙ ap (λ (x : ℕ). b / 64 % 2 + x) (step b 128 ∙ ap (λ (x : ℕ). b / 128 % 2 + ones x) none ∙ no_more)))))))

-- a test of a bit counts as the bit
pub digit : (x : ℕ) → cond (eqb (x % 2) 1) 1 0 ≡ x % 2
digit x = go (ℕ_discrete (x % 2) 1)
  where
    go : Dec (x % 2 ≡ 1) → cond (eqb (x % 2) 1) 1 0 ≡ x % 2
    go (yes e) = rw (eq-eqb (x % 2) 1 e) (omega arith)
    go (no e) = rw (ne_eqb (x % 2) 1 e) (omega arith)

-- bit k of byte i of a map, from the top
pub bit_at : (map : List ℕ) (i k : ℕ) → k < 8 → cond (is_set map (8 * i + k)) 1 0 ≡ get_or map i 0 / 2 ^ (7 - k) % 2
unfolding is_set
bit_at map i k h =
    let byte : (8 * i + k) / 8 ≡ i = omega arith in
    let bit : (8 * i + k) % 8 ≡ k = omega arith in
    rw (byte, bit) (digit (get_or map i 0 / 2 ^ (7 - k)))

turned : (a b c d e f g h : ℕ) → 0 + a + b + c + d + e + f + g + h ≡ h + (g + (f + (e + (d + (c + (b + a))))))
turned a b c d e f g h = omega arith

pub byte-bits : (map : List ℕ) (i : ℕ) → get_or map i 0 < 256 → how_many (λ k. is_set map (8 * i + k)) 8 ≡ ones (get_or map i 0)
unfolding how_many
byte-bits map i h =
    rw (
      bit_at map i 0 (lit< tt),
      bit_at map i 1 (lit< tt),
      bit_at map i 2 (lit< tt),
      bit_at map i 3 (lit< tt),
      bit_at map i 4 (lit< tt),
      bit_at map i 5 (lit< tt),
      bit_at map i 6 (lit< tt),
      bit_at map i 7 (lit< tt),
    )
    (turned _ _ _ _ _ _ _ _ ∙ sym (byte-ones (get_or map i 0) h))

-- the lower half of a byte
half : (b : ℕ) → b % 16 ≡ b / 8 % 2 * 8 + (b / 4 % 2 * 4 + (b / 2 % 2 * 2 + b / 1 % 2))
half b =
    mod-mul b {m = 2} {c = 8} (lit< tt) (lit< tt)
    ∙ ap (λ (x : ℕ). b / 8 % 2 * 8 + x) (mod-mul b {m = 2} {c = 4} (lit< tt) (lit< tt)
    ∙ ap (λ (x : ℕ). b / 4 % 2 * 4 + x) (mod-mul b {m = 2} {c = 2} (lit< tt) (lit< tt)
    ∙ ap (λ (x : ℕ). b / 2 % 2 * 2 + x % 2) (sym (div-one b))))

-- the number of its bits, which is 0 where it is
abbrev pub half-bits : ℕ → ℕ
half-bits b = 0 + b / 8 % 2 + b / 4 % 2 + b / 2 % 2 + b / 1 % 2

pub half-none : (b : ℕ) → b % 16 ≡ 0 → half-bits b ≡ 0
half-none b e = none _ _ _ _ (sym (half b) ∙ e)
  where
    none : (w x y z : ℕ) → w * 8 + (x * 4 + (y * 2 + z)) ≡ 0 → 0 + w + x + y + z ≡ 0
    none w x y z h = omega arith

pub half-some : (b : ℕ) → half-bits b ≡ 0 → b % 16 ≡ 0
half-some b e = half b ∙ none _ _ _ _ e
  where
    none : (w x y z : ℕ) → 0 + w + x + y + z ≡ 0 → w * 8 + (x * 4 + (y * 2 + z)) ≡ 0
    none w x y z h = omega arith
