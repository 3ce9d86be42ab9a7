-- Eight pixels as a byte.
-- Assumes nothing.
use mathlib.Core.Path.{◌≡◌, refl}
use mathlib.Core.Bool.{Bool, true, false}
use mathlib.Core.List.{List}
use Prim.Native.Nat.{ℕ, zero, suc, ◌+◌, ◌*◌, ◌^◌, ◌<◌, ◌≤◌}
use native.Mathlib.Nat.{pow-suc, lt_of_lt_of_le}
use native.Mathlib.Numerals.{add-one}
use native.Mathlib.Omega.{arith}
use mir.Syntax.{w8}
use mir.Val.{Fits}
use lib.Pow.{pow_mono}
use Rattle.layout.specs.Numbers.{bit}
use Rattle.picture.specs.Raster.{is_shown, bits_from, eight_from}

bits_below : (map : List ℕ) (r c n : ℕ) → bits_from map r c n < 2 ^ n
unfolding bits_from
bits_below map r c zero = omega arith
bits_below map r c (suc n) = go (is_shown map r (c + n)) (bits_below map r c n)
  where
    go : (b : Bool) → bits_from map r c n < 2 ^ n → 2 * bits_from map r c n + bit b < 2 ^ suc n
    go true h = rw (pow-suc 2 n) (omega arith)
    go false h = rw (pow-suc 2 n) (omega arith)

-- a turn of the loop adds a pixel
module _ (map : List ℕ) (r c j : ℕ) {byte : ℕ} (e : byte ≡ bits_from map r c j) where
  pub bits-next : {d : ℕ} → d ≡ bit (is_shown map r (c + j)) → 2 * byte + d ≡ bits_from map r c (j + 1)
  unfolding bits_from
  bits-next is = rw (add-one j, e, is)

  pub next_fits : {d : ℕ} → d ≡ bit (is_shown map r (c + j)) → j < 8 → Fits w8 (2 * byte + d)
  next_fits is more =
      record { fits = rw (bits-next is) (lt_of_lt_of_le (bits_below map r c (j + 1)) (pow_mono {i = j + 1} {j = 8} (omega arith))) }

  pub twice-fits : j < 8 → Fits w8 (2 * byte)
  twice-fits more =
      let small : bits_from map r c j < 2 ^ 7 = lt_of_lt_of_le (bits_below map r c j) (pow_mono {i = j} {j = 7} (omega arith)) in
      record { fits = omega arith }

  pub bits-done : j ≤ 8 → 8 ≤ j → byte ≡ eight_from map r c
  bits-done few all = let same : j ≡ 8 = omega arith in rw same at e

pub bits_none : (map : List ℕ) (r c : ℕ) → 0 ≡ bits_from map r c 0
unfolding bits_from
bits_none map r c = refl
