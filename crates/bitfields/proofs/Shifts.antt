-- What the shifts of a word of 16 bits give.
-- Assumes nothing.
use Rattle.std.proofs.Common.{◌≡◌, ℕ, zero, ◌-◌, ◌*◌, ◌/◌, ◌%◌, ◌^◌, ◌<◌, ◌≤◌, sym, ap, ◌∙◌, lt_of_lt_of_le, mod-eq_of_lt, one-mul, pow_pos, pow_mono}
use native.Mathlib.Nat.{mul-mod_left, div-eq_of_lt, zero-mod}
use lib.Pow.{pow-lt}
use Rattle.bitfields.specs.Fields.{word_bits}
use Rattle.bitfields.proofs.Bits.{shl-split}

-- a value of a word fits each width from the word's own on
pub all-kept : (v w : ℕ) → v < 2 ^ word_bits → word_bits ≤ w → v ≡ v % 2 ^ w
all-kept v w h wide = sym (mod-eq_of_lt (lt_of_lt_of_le h (pow_mono wide)))

one_shifted : (w : ℕ) → w < word_bits → 1 * 2 ^ w % 2 ^ word_bits ≡ 2 ^ w
one_shifted w h = ap (λ (x : ℕ). x % 2 ^ word_bits) (one-mul (2 ^ w)) ∙ mod-eq_of_lt (pow-lt h)

pub shifted-pos : (w : ℕ) → w < word_bits → zero < 1 * 2 ^ w % 2 ^ word_bits
shifted-pos w h = rw (one_shifted w h) (pow_pos w)

pub kept : (v w r : ℕ) → w < word_bits → r ≡ v % (1 * 2 ^ w % 2 ^ word_bits) → r ≡ v % 2 ^ w
kept v w r h e = rw (one_shifted w h) at e

-- nothing is left of what stands above the word
pub lost : (v l : ℕ) → word_bits ≤ l → 0 ≡ v * 2 ^ l % 2 ^ word_bits
lost v l h = sym (rw (shl-split v l word_bits h) (mul-mod_left (v * 2 ^ (l - word_bits)) (2 ^ word_bits)))

pub nothing_above : (v l w : ℕ) → v < 2 ^ word_bits → word_bits ≤ l → 0 ≡ v / 2 ^ l % 2 ^ w
nothing_above v l w h above = sym (rw (div-eq_of_lt (lt_of_lt_of_le h (pow_mono above))) (zero-mod (2 ^ w)))
