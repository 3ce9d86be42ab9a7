-- What a code has, by its place: the number of its fields and their width.
-- Assumes nothing.
use mathlib.Core.Path.{◌≡◌, refl}
use mathlib.Core.List.{List, []}
use Prim.Native.Nat.{ℕ, ◌+◌, ◌-◌, ◌*◌, ◌<◌, ◌≤◌}
use native.Mathlib.Decide.{dec_le}
use native.Mathlib.Omega.{arith}
use borrow.Author.Tests.{le-leb, lt-leb}
use lib.Dec.{T}
use lib.ListN.{length, get_or, get_or-eq_default}
use Rattle.words.proofs.Tables.{agree, agree_at}
use Rattle.orders.specs.Codes.{Row, b, rows, row_of, place_of, count_of, width_of, length_of}

-- the two ways to a code's place
pub place-code : (code : ℕ) → code ≤ 17 → code ≡ place_of code
unfolding place_of
place-code code h = rw (le-leb code 17 h)

pub place_none : (code : ℕ) → 17 < code → 0 ≡ place_of code
unfolding place_of
place_none code h = rw (lt-leb code 17 h)

-- of eighteen rows, the first of them empty, the one at a code's place is the code's
place_at : {A : Type 0} (t : List A) (none : A) → length t ≡ 18 → get_or t 0 none ≡ none
    → (code : ℕ) → get_or t (place_of code) none ≡ get_or t code none
place_at t none long first code = go (dec_le code 17)
  where
    go : Dec (code ≤ 17) → get_or t (place_of code) none ≡ get_or t code none
    go (yes h) = rw (← place-code code h)
    go (no h) = rw (← place_none code (omega arith), get_or-eq_default t none {n = code} (omega arith)) first

place-row : (code : ℕ) → row_of (place_of code) ≡ row_of code
unfolding rows
place-row = place_at rows (b []) refl refl

place-below : (code : ℕ) → place_of code < 18
place-below code = go (dec_le code 17)
  where
    go : Dec (code ≤ 17) → place_of code < 18
    go (yes h) = omega (arith, place-code code h)
    go (no h) = omega (arith, place_none code (omega arith))

-- a field has a byte at least
pub width_some : (code : ℕ) → 1 ≤ width_of code
unfolding rows width_of
width_some code =
    let none = agree_at (λ k. 1 - (row_of k).width) (λ k. 0) 18 tt (place_of code) (place-below code) in
    rw (← place-row code) (omega arith)

-- what is at most m in every row is so for every code
rows-most : (g : Row → ℕ) (m code : ℕ) → T (agree (λ k. g (row_of k) - m) (λ k. 0) 18) → g (row_of code) ≤ m
rows-most g m code ok =
    let none = agree_at (λ k. g (row_of k) - m) (λ k. 0) 18 ok (place_of code) (place-below code) in
    rw (← place-row code) (omega arith)

-- no code has more than four fields, and they take at most eight bytes
pub few : (code : ℕ) → length (row_of code).fields ≤ 4
unfolding rows
few code = rows-most (λ r. length r.fields) 4 code tt

pub length_most : (code : ℕ) → length_of code ≤ 9
unfolding rows count_of width_of length_of
length_most code = rows-most (λ r. 1 + r.width * length r.fields) 9 code tt
