-- The rows of the raster, byte by byte.
-- Assumes nothing.
use mathlib.Core.Path.{◌≡◌}
use mathlib.Core.List.{List, [], ◌∷◌}
use Prim.Native.Nat.{ℕ, ◌*◌, ◌≤◌}
use Rattle.layout.specs.Adds.{Adds}
use Rattle.layout.specs.declared.writer.Writer.{Writer}
use Rattle.layout.proofs.Below.{TextsAdded, texts-done}
use Rattle.pixels.specs.Map.{rows}
use Rattle.picture.specs.Raster.{eight_from, byte_text, row_bytes, row_text, raster_text}

module _ {u v : Writer} (map : List ℕ) where
  pub byte-added : (r k : ℕ) {b : ℕ} → b ≡ eight_from map r (8 * k) → Adds u v (b ∷ []) → Adds u v (byte_text map r k)
  unfolding byte_text
  byte-added r k is w = rw is at w

  pub row_done : (r : ℕ) {k : ℕ} → TextsAdded (byte_text map r) row_bytes u v k → row_bytes ≤ k → Adds u v (row_text map r)
  unfolding row_text
  row_done r h all = texts-done h all

  pub raster-done : {k : ℕ} → TextsAdded (row_text map) rows u v k → rows ≤ k → Adds u v (raster_text map)
  unfolding raster_text
  raster-done h all = texts-done h all
