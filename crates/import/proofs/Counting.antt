-- The number that digits stand for, digit by digit.
-- Assumes nothing.
use mathlib.Core.Path.{◌≡◌, refl, sym, ◌∙◌}
use mathlib.Core.List.{List}
use Prim.Native.Nat.{ℕ, ◌+◌, ◌*◌, ◌≤◌, ◌<◌, min}
use native.Mathlib.Nat.{mul-le-mul_right}
use native.Mathlib.Numerals.{add-one}
use native.Mathlib.Omega.{arith}
use lib.ListN.{length, drop, get_or, drop_of_length-le}
use lib.Seq.{drop-cons}
use Rattle.import.specs.Line.{digit_value, value_from, tick_limit}

-- a number with one digit more, before the limit is looked at
pub grown-small : {base n : ℕ} → base ≤ 16 → n ≤ tick_limit → base * n ≤ 16 * tick_limit
grown-small {base} {n} h k = let p : base * n ≤ 16 * n = mul-le-mul_right n h in omega arith

-- the digits from the ith on are left
pub record Counting (base : ℕ) (digits : List ℕ) (n i : ℕ) : Type 0 where
  pub small : n ≤ tick_limit
  pub left : value_from base 0 digits ≡ value_from base n (drop i digits)

pub counting-first : {base : ℕ} {digits : List ℕ} → Counting base digits 0 0
counting-first = record { small = omega arith; left = refl }

module _ {base : ℕ} {digits : List ℕ} {n i : ℕ} (h : Counting base digits n i) where
  pub counting-next : i < length digits → {m : ℕ} → m ≡ min (base * n + digit_value (get_or digits i 0)) tick_limit
      → Counting base digits m (i + 1)
  unfolding value_from
  counting-next more e =
      record { small = omega arith; left = h.left ∙ rw (drop-cons digits i 0 more, add-one i, e) }

  pub counted : length digits ≤ i → n ≡ value_from base 0 digits
  unfolding value_from
  counted all = sym (h.left ∙ rw (drop_of_length-le digits all))
