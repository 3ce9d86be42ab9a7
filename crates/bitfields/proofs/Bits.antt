-- Laws of a number's bits.
-- Assumes nothing.
use Rattle.std.proofs.Common.{◌≡◌, ℕ, zero, suc, ◌+◌, ◌-◌, ◌*◌, ◌/◌, ◌%◌, ◌^◌, ◌<◌, ◌≤◌, sym, refl, ap, ◌∙◌, ap₂, lt_of_lt_of_le, mod-lt, mul_assoc, zero-add, zero-mul, div-one, arith, lit<, pow_pos, pow_mono, pow-add, shr-shr}
use native.Mathlib.Nat.{mod-one, mul-mod_left, div-eq_of_lt, zero-mod}
use lib.Arith.{bin_ind}
use lib.Pow.{shl-shr, split, field, mod-pow-add, mod-mod-pow}
use Rattle.bitfields.specs.Fields.{bit_at}

pub bit-most : (n b : ℕ) → bit_at n b ≤ 1
unfolding bit_at
bit-most n b = omega (arith, mod-lt (n / 2 ^ b) {m = 2} (lit< tt))

pub bit-first : (n : ℕ) → bit_at n 0 ≡ n % 2
unfolding bit_at
bit-first n = ap (λ (x : ℕ). x % 2) (div-one n)

pub bit-shr : (n l b : ℕ) → bit_at (n / 2 ^ l) b ≡ bit_at n (l + b)
unfolding bit_at
bit-shr n l b = ap (λ (x : ℕ). x % 2) (shr-shr n l b)

bit-next : (n b : ℕ) → bit_at n (suc b) ≡ bit_at (n / 2) b
bit-next n b = ap (bit_at n) (omega arith) ∙ sym (bit-shr n 1 b)

-- a value that was moved up by l bits
pub bit-shl : (n l b : ℕ) → bit_at (n * 2 ^ l) (l + b) ≡ bit_at n b
bit-shl n l b = sym (bit-shr (n * 2 ^ l) l b) ∙ ap (λ (x : ℕ). bit_at x b) (shl-shr n l)

-- by l bits: first by all but k, and then by k
pub shl-split : (n l k : ℕ) → k ≤ l → n * 2 ^ l ≡ n * 2 ^ (l - k) * 2 ^ k
shl-split n l k h =
    ap (λ (x : ℕ). n * 2 ^ x) (omega arith) ∙ ap (λ (x : ℕ). n * x) (pow-add 2 (l - k) k) ∙ sym (mul_assoc n (2 ^ (l - k)) (2 ^ k))

pub bit_below : (n l b : ℕ) → b < l → bit_at (n * 2 ^ l) b ≡ 0
unfolding bit_at
bit_below n l b h =
    let even : n * 2 ^ (l - b) % 2 ≡ 0 = rw (shl-split n (l - b) 1 (omega arith)) (mul-mod_left (n * 2 ^ (l - b - 1)) 2) in
    rw (shl-split n l b (omega arith), shl-shr (n * 2 ^ (l - b)) b) even

-- a value that is kept in w bits
pub bit_kept : (n w b : ℕ) → b < w → bit_at (n % 2 ^ w) b ≡ bit_at n b
unfolding bit_at
bit_kept n w b h =
    let k = w - suc b in
    ap (λ (x : ℕ). n % 2 ^ x / 2 ^ b % 2) (omega arith) ∙ ap (λ (x : ℕ). x % 2) (field n (k + 1) b) ∙ mod-mod-pow (n / 2 ^ b) k 1

pub bit-over : (n w b : ℕ) → n < 2 ^ w → w ≤ b → bit_at n b ≡ 0
unfolding bit_at
bit-over n w b h above = rw (div-eq_of_lt (lt_of_lt_of_le h (pow_mono above))) (zero-mod 2)

-- a sum with no carry
half-sum : (x y : ℕ) → bit_at x 0 + bit_at y 0 ≤ 1 → (x + y) / 2 ≡ x / 2 + y / 2
half-sum x y h = let low : x % 2 + y % 2 ≤ 1 = rw (bit-first x, bit-first y) at h in omega arith

first-sum : (x y : ℕ) → bit_at x 0 + bit_at y 0 ≤ 1 → bit_at (x + y) 0 ≡ bit_at x 0 + bit_at y 0
first-sum x y h =
    let low : x % 2 + y % 2 ≤ 1 = rw (bit-first x, bit-first y) at h in rw (bit-first (x + y), bit-first x, bit-first y) (omega arith)

pub bit-sum : (b x y : ℕ) → ((d : ℕ) → bit_at x d + bit_at y d ≤ 1) → bit_at (x + y) b ≡ bit_at x b + bit_at y b
bit-sum zero x y h = first-sum x y (h 0)
bit-sum (suc b) x y h =
    rw (bit-next (x + y) b, bit-next x b, bit-next y b, half-sum x y (h 0))
    (bit-sum b (x / 2) (y / 2) (λ d. rw (bit-next x d, bit-next y d) at (h (suc d))))

top_bit : (n w : ℕ) → n % 2 ^ suc w ≡ bit_at n w * 2 ^ w + n % 2 ^ w
unfolding bit_at
top_bit n w = ap (λ (k : ℕ). n % 2 ^ k) (omega arith) ∙ mod-pow-add n 1 w

-- numbers with the same w lowest bits
pub same_bits : (w x y : ℕ) → ((b : ℕ) → b < w → bit_at x b ≡ bit_at y b) → x % 2 ^ w ≡ y % 2 ^ w
same_bits zero x y h = mod-one x ∙ sym (mod-one y)
same_bits (suc w) x y h =
    top_bit x w ∙ ap₂ (λ (p q : ℕ). p * 2 ^ w + q) (h w (omega arith)) (same_bits w x y (λ b l. h b (omega arith))) ∙ sym (top_bit y w)

-- a number with no bit is 0
no_bits : (n : ℕ) → ((b : ℕ) → bit_at n b ≡ 0) → n ≡ 0
no_bits =
    bin_ind (λ (n : ℕ). ((b : ℕ) → bit_at n b ≡ 0) → n ≡ 0) (λ h. refl)
    (λ n half h.
    let first : n % 2 ≡ 0 = rw (bit-first n) at (h 0) in
    let later : n / 2 ≡ 0 = half (λ b. sym (bit-next n b) ∙ h (suc b)) in
    omega arith)

-- a number with no bit from w on is less than 2 ^ w
pub bits_below : (w n : ℕ) → ((b : ℕ) → w ≤ b → bit_at n b ≡ 0) → n < 2 ^ w
bits_below w n h =
    let none : n / 2 ^ w ≡ 0 = no_bits (n / 2 ^ w) (λ b. bit-shr n w b ∙ h (w + b) (omega arith)) in
    rw (← (rw (none, zero-mul (2 ^ w), zero-add (n % 2 ^ w)) at (split n w))) (mod-lt n (pow_pos w))
