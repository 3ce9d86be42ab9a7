-- What a writer answers and leaves in its buffer.
-- Assumes nothing.
use mathlib.Core.Path.{◌≡◌}
use mathlib.Core.Bool.{Bool}
use mathlib.Core.List.{List, ◌++◌}
use Prim.Native.Nat.{ℕ, ◌+◌}
use Rattle.std.specs.Prelude.{Result}
use Rattle.blocks.specs.Written.{written_if, buffer_after}
use Rattle.blocks.specs.declared.refusal.Refusal.{Refusal}

-- by the lengths of the block's two parts
pub written-by : (l m l' m' : ℕ) (fine fine' : Bool) (buffer : List ℕ) (r : Result (Unit {0}) Refusal) → r ≡ written_if (l' + m') fine' buffer
    → l ≡ l' → m' ≡ m → fine' ≡ fine → r ≡ written_if (l + m) fine buffer
written-by l m l' m' fine fine' buffer r is e e' same = rw (← e, e', same) at is

-- the buffer, by the status words of what is shown
pub written-left : {M : Type 0} (status : M → List ℕ) (w : Result (Unit {0}) Refusal) (after readings given buffer : List ℕ) (m shown : M)
    → after ≡ buffer_after w (readings ++ given) buffer → given ≡ status m → m ≡ shown
    → after ≡ buffer_after w (readings ++ status shown) buffer
written-left status w after readings given buffer m shown left e e' = rw (e, e') at left
