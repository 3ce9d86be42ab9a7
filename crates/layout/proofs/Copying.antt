-- Bytes added one by one, of which those from the ith on are left.
-- Assumes nothing.
use mathlib.Core.List.{List, [], ◌∷◌}
use Prim.Native.Nat.{ℕ, ◌+◌, ◌≤◌, ◌<◌}
use native.Mathlib.Numerals.{add-one}
use lib.ListN.{length, get_or, drop, drop_of_length-le}
use lib.Seq.{drop-cons}
use Rattle.layout.specs.Adds.{Adds}
use Rattle.layout.specs.declared.writer.Writer.{Writer}
use Rattle.layout.proofs.Adding.{Partly, partly-next, partly-done}

module _ {old : Writer} {bytes : List ℕ} {new : Writer} {i : ℕ} (part : Partly old bytes (drop i bytes) new) where
  pub copying-next : i < length bytes → {new' : Writer} → Adds new new' (get_or bytes i 0 ∷ []) → Partly old bytes (drop (i + 1) bytes) new'
  copying-next more w = partly-next part (rw (add-one i) (drop-cons bytes i 0 more)) w

  pub copied : length bytes ≤ i → Adds old new bytes
  copied all = partly-done part (drop_of_length-le bytes all)
