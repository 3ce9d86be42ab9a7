-- A number that is printed reads as itself, in decimal and in four hexadecimal digits.
-- Assumes nothing.
use mathlib.Core.Path.{◌≡◌, refl, sym, ap, ◌∙◌}
use mathlib.Core.Bool.{Bool, true, false, cond}
use mathlib.Core.List.{List, [], ◌∷◌, ◌++◌}
use Prim.Native.Nat.{ℕ, zero, suc, ◌+◌, ◌-◌, ◌*◌, ◌/◌, ◌%◌, ◌≤◌, ◌<◌, min}
use native.Mathlib.Omega.{arith}
use borrow.Author.Tests.{ltb-true, ltb-false, lt-leb}
use lib.Dec.{ltb}
use Rattle.layout.specs.Numbers.{digit, decimal_of, hex_digit, hex_of}
use Rattle.layout.proofs.Digits.{decimal-one, decimal-more}
use Rattle.import.specs.Line.{digit_value, value_from, tick_limit, word_limit}
use Rattle.import.proofs.Bytes.{upper-other, value-digit, value-letter}

value-append : (base n : ℕ) (xs ys : List ℕ) → value_from base n (xs ++ ys) ≡ value_from base (value_from base n xs) ys
unfolding value_from
value-append base n [] ys = refl
value-append base n (x ∷ xs) ys = value-append base (min (base * n + digit_value x) tick_limit) xs ys

digit_value_lem : (d : ℕ) → d < 10 → digit_value (digit d) ≡ d
digit_value_lem d h = sym (value-digit (digit d) (omega arith)) ∙ omega arith

letter-value : (d : ℕ) → 10 ≤ d → d < 16 → digit_value (65 + (d - 10)) ≡ d
letter-value d low high =
    let b = 65 + (d - 10) in
    let same = upper-other b (rw (lt-leb 97 b (omega arith))) in
    sym (value-letter b (omega arith) same) ∙ omega arith

hex-value : (d : ℕ) → d < 16 → digit_value (hex_digit d) ≡ d
unfolding hex_digit
hex-value d h = go (ltb d 10) refl
  where
    go : (z : Bool) → ltb d 10 ≡ z → digit_value (cond z (digit d) (65 + (d - 10))) ≡ d
    go true e = digit_value_lem d (ltb-true d 10 e)
    go false e = letter-value d (ltb-false d 10 e) h

decimal-within : (k t : ℕ) → t ≤ k → t < tick_limit → value_from 10 0 (decimal_of t) ≡ t
unfolding value_from
decimal-within zero t h small = rw (decimal-one t (omega arith), digit_value_lem t (omega arith)) (omega arith)
decimal-within (suc k) t h small = go (ltb t 10) refl (decimal-within k (t / 10))
  where
    go : (z : Bool) → ltb t 10 ≡ z → (t / 10 ≤ k → t / 10 < tick_limit → value_from 10 0 (decimal_of (t / 10)) ≡ t / 10)
        → value_from 10 0 (decimal_of t) ≡ t
    go true e rest = let one = ltb-true t 10 e in rw (decimal-one t one, digit_value_lem t one) (omega arith)
    go false e rest =
        let more = ltb-false t 10 e in
        ap (value_from 10 0) (decimal-more t more)
        ∙ value-append 10 0 (decimal_of (t / 10)) (digit (t % 10) ∷ [])
        ∙ rw (rest (omega arith) (omega arith), digit_value_lem (t % 10) (omega arith)) (omega arith)

pub decimal-value : (t : ℕ) → t < tick_limit → value_from 10 0 (decimal_of t) ≡ t
decimal-value t h = decimal-within t t (omega arith) h

pub word_value : (w : ℕ) → w < word_limit → value_from 16 0 (hex_of w) ≡ w
unfolding value_from hex_of
word_value w h =
    let one : min (16 * 0 + w / 4096) tick_limit ≡ w / 4096 = omega arith in
    let two : min (16 * (w / 4096) + w / 256 % 16) tick_limit ≡ w / 256 = omega arith in
    let three : min (16 * (w / 256) + w / 16 % 16) tick_limit ≡ w / 16 = omega arith in
    let four : min (16 * (w / 16) + w % 16) tick_limit ≡ w = omega arith in
    rw (hex-value (w / 4096) (omega arith), hex-value (w / 256 % 16) (omega arith), hex-value (w / 16 % 16) (omega arith), hex-value (w % 16) (omega arith), one, two, three)
    four
