-- The fields of the SIN M word.
-- Assumes nothing.
use mathlib.Core.Path.{◌≡◌}
use Prim.Native.Nat.{ℕ, ◌+◌, ◌*◌, ◌≤◌, ◌<◌}
use native.Mathlib.Omega.{arith}
use Rattle.words.specs.Fields.{sign, top, joined}

-- SIN M's data m and SIN L's l make a 12-bit magnitude under the sign, which is bit 12
module _ (m l : ℕ) (sin_m : m ≤ 31) (sin_l : l ≤ 255) where
  pub sine-fields : joined m l ≡ sign m * 4096 + (top m * 256 + l)
  sine-fields = omega arith

  pub sine-magnitude : top m * 256 + l < 4096
  sine-magnitude = omega arith

  pub sine-sign : sign m ≤ 1
  sine-sign = omega arith
