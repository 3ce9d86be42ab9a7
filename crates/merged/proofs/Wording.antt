-- Request P6's refusals in words.
-- Assumes nothing.
use mathlib.Core.List.{[], ◌∷◌}
use Prim.Native.Nat.{ℕ, ◌≤◌}
use native.Mathlib.Omega.{arith}
use lib.ListN.{length}
use Rattle.layout.specs.Numbers.{ascii}
use Rattle.layout.proofs.Widths.{layout-few}
use Rattle.merged.specs.Refusal.{refusal_template, reason_index, refusal_text}

pub refusal-few : (number : ℕ) → length (refusal_text number) ≤ 256
unfolding refusal_text refusal_template ascii
refusal-few number = omega (arith, layout-few refusal_template (number ∷ reason_index number ∷ []) [])
