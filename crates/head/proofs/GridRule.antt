-- The rule of the grid: one test computed over all of its entries, and what it says of each.
-- Assumes nothing.
use mathlib.Core.Path.{◌≡◌, refl}
use mathlib.Core.Bool.{Bool, true, false, ◌&&◌}
use mathlib.Core.List.{List, []}
use Prim.Native.Nat.{ℕ, zero, suc, ◌<◌, ◌≤◌}
use native.Mathlib.Omega.{arith}
use lib.Dec.{T, eqb}
use lib.ListN.{get_or}
use Rattle.words.proofs.Tables.{left as and_left, right as and_right}
use Rattle.words.proofs.Tables.{agree, agree_at}
use Rattle.head.specs.Grid.{applies}

abbrev one : Bool → ℕ
one true = 1
one false = 0

one-eqb : (b : Bool) → eqb (one b) 1 ≡ b
one-eqb true = refl
one-eqb false = refl

-- each row holds 1 exactly at the kinds that are applied in its phase
abbrev pub ruled : List (List ℕ) → ℕ → Bool
ruled g p = agree (λ k. get_or (get_or g p []) k 0) (λ k. one (applies p k)) 28

abbrev pub ruled_all : List (List ℕ) → Bool
ruled_all g = ruled g 0 && ruled g 1 && ruled g 2

row : (g : List (List ℕ)) (p : ℕ) → T (ruled_all g) → p < 3 → T (ruled g p)
row g zero ok h = and_left (ruled g 0) _ (and_left (ruled g 0 && ruled g 1) (ruled g 2) ok)
row g (suc zero) ok h = and_right (ruled g 0) (ruled g 1) (and_left (ruled g 0 && ruled g 1) (ruled g 2) ok)
row g (suc (suc zero)) ok h = and_right (ruled g 0 && ruled g 1) (ruled g 2) ok
row g (suc (suc (suc p))) ok h = absurd (omega arith)

pub grid-rule : (g : List (List ℕ)) (p k : ℕ) → T (ruled_all g) → p ≤ 2 → k < 28 → eqb (get_or (get_or g p []) k 0) 1 ≡ applies p k
grid-rule g p k ok h kind =
    rw (agree_at (λ k. get_or (get_or g p []) k 0) (λ k. one (applies p k)) 28 (row g p ok (omega arith)) k kind) (one-eqb (applies p k))
