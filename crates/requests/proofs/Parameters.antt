-- The fields of a parameter: they stand as source document 000 draws them, bit 9 first, and what is read from them gives it back.
-- Assumes nothing.
use mathlib.Core.Path.{◌≡◌, refl}
use mathlib.Core.List.{[], ◌∷◌}
use Prim.Native.Nat.{ℕ, ◌+◌, ◌*◌, ◌/◌, ◌%◌, ◌<◌}
use native.Mathlib.Nat.{mod-mod, mod-eq_of_lt, div-one, div-add-mod'}
use native.Mathlib.Omega.{arith}
use lib.Arith.{mod-mul}
use lib.Dec.{lit<}
use Rattle.bitfields.specs.Fields.{composed, values_in, bit_at, has_bit, bit_put, drawn}
use Rattle.bitfields.proofs.Apart.{apart, all_apart}
use Rattle.bitfields.proofs.Written.{drawn_put, drawn-written}
use Rattle.requests.specs.Parameters.{mode_fields, lamp_fields, cover_fields}

-- 00 0000 00BB
pub mode-drawn : (matrix simulation : ℕ)
    → drawn 10 (composed mode_fields (matrix ∷ simulation ∷ []))
    ≡ 0 ∷ 0 ∷ 0 ∷ 0 ∷ 0 ∷ 0 ∷ 0 ∷ 0 ∷ bit_at simulation 0 ∷ bit_at matrix 0 ∷ []
unfolding mode_fields drawn_put bit_put has_bit all_apart apart
mode-drawn matrix simulation = drawn-written mode_fields (matrix ∷ simulation ∷ []) refl 10

-- 00 0000 0BBB
pub lamp-drawn : (t s radio : ℕ)
    → drawn 10 (composed lamp_fields (t ∷ s ∷ radio ∷ []))
    ≡ 0 ∷ 0 ∷ 0 ∷ 0 ∷ 0 ∷ 0 ∷ 0 ∷ bit_at radio 0 ∷ bit_at s 0 ∷ bit_at t 0 ∷ []
unfolding lamp_fields drawn_put bit_put has_bit all_apart apart
lamp-drawn t s radio = drawn-written lamp_fields (t ∷ s ∷ radio ∷ []) refl 10

-- VV VVVV VSTD
pub cover-drawn : (direction wave sensors steps : ℕ)
    → drawn 10 (composed cover_fields (direction ∷ wave ∷ sensors ∷ steps ∷ []))
    ≡ bit_at steps 6 ∷ bit_at steps 5 ∷ bit_at steps 4 ∷ bit_at steps 3 ∷ bit_at steps 2 ∷ bit_at steps 1 ∷ bit_at steps 0
    ∷ bit_at sensors 0 ∷ bit_at wave 0 ∷ bit_at direction 0
    ∷ []
unfolding cover_fields drawn_put bit_put has_bit all_apart apart
cover-drawn direction wave sensors steps = drawn-written cover_fields (direction ∷ wave ∷ sensors ∷ steps ∷ []) refl 10

pub mode-fields : (v : ℕ) → v < 4 → composed mode_fields (values_in mode_fields v) ≡ v
unfolding composed values_in mode_fields
mode-fields v h = omega arith

pub lamp-fields : (v : ℕ) → v < 8 → composed lamp_fields (values_in lamp_fields v) ≡ v
unfolding composed values_in lamp_fields
lamp-fields v h = omega arith

whole : (a b c d s r v : ℕ) → d * 8 + r ≡ v → r ≡ c * 4 + s → s ≡ b * 2 + a → a * 1 + (b * 2 + (c * 4 + (d * 8 + 0))) ≡ v
whole a b c d s r v e f g = omega arith

pub cover-fields : (v : ℕ) → v < 1024 → composed cover_fields (values_in cover_fields v) ≡ v
unfolding composed values_in cover_fields
cover-fields v h =
    let few : v / 8 < 128 = omega arith in
    rw (mod-mod (v / 1) 2, mod-mod (v / 2) 2, mod-mod (v / 4) 2, mod-mod (v / 8) 128, div-one v, mod-eq_of_lt few)
    (whole (v % 2) (v / 2 % 2) (v / 4 % 2) (v / 8) (v % 4) (v % 8) v (div-add-mod' v 8) (mod-mul v {m = 2} {c = 4} (lit< tt) (lit< tt))
    (mod-mul v {m = 2} {c = 2} (lit< tt) (lit< tt)))
