-- A pixel of a row as a bit.
-- Assumes nothing.
use mathlib.Core.Path.{◌≡◌, sym}
use mathlib.Core.List.{List}
use Prim.Native.Nat.{ℕ, ◌+◌, ◌-◌, ◌*◌, ◌/◌, ◌%◌, ◌^◌, ◌<◌, ◌≤◌}
use borrow.Author.Tests.{lt-ltb, le-ltb}
use lib.ListN.{get_or}
use Rattle.layout.specs.Numbers.{bit}
use Rattle.pixels.specs.Map.{columns, is_set, is_lit}
use Rattle.pixels.proofs.Bytes.{digit}
use Rattle.picture.specs.Raster.{is_shown}

pub dot-past : (map : List ℕ) (r c : ℕ) → columns ≤ c → 0 ≡ bit (is_shown map r c)
unfolding is_shown
dot-past map r c h = rw (le-ltb c columns h)

pub dot-lit : (map : List ℕ) (r c : ℕ) → c < columns → {b : ℕ} → b ≡ get_or map ((r * columns + c) / 8) 0
    → b / 2 ^ (7 - (r * columns + c) % 8) % 2 ≡ bit (is_shown map r c)
unfolding is_shown is_lit is_set
dot-lit map r c h is = rw (lt-ltb c columns h, ← is) (sym (digit _))
