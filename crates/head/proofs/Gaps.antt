-- The gaps between the words of a list: the ways through `gap_after`.
-- Assumes nothing.
use mathlib.Core.Path.{◌≡◌}
use mathlib.Core.List.{List}
use Prim.Native.Nat.{ℕ, ◌+◌, ◌-◌, ◌≤◌, ◌<◌}
use native.Mathlib.Omega.{arith}
use lib.ListN.{length, get_or, drop, drop_of_length-le}
use lib.Seq.{drop-cons}
use Rattle.head.specs.List.{gap_after}

module _ (ts : List ℕ) (at : ℕ) where
  pub gap-next : at + 1 < length ts → {n : ℕ} → n ≡ get_or ts (at + 1) 0 - get_or ts at 0 → n ≡ gap_after (get_or ts at 0) (drop (at + 1) ts)
  unfolding gap_after
  gap-next more is = rw (drop-cons ts (at + 1) 0 more) is

  pub gap-last : length ts ≤ at + 1 → 1 ≡ gap_after (get_or ts at 0) (drop (at + 1) ts)
  unfolding gap_after
  gap-last over = rw (drop_of_length-le ts {i = at + 1} over)

  pub gap-none : length ts ≤ at → 1 ≡ gap_after (get_or ts at 0) (drop (at + 1) ts)
  gap-none over = gap-last (omega arith)
