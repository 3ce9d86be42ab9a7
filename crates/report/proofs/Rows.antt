-- The rows of a record, and the entries that they are.
-- Assumes nothing.
use mathlib.Core.Path.{◌≡◌, refl, ap, ◌∙◌}
use mathlib.Core.List.{List}
use Prim.Native.Nat.{ℕ, zero, suc, ◌+◌, ◌-◌, ◌*◌, ◌<◌}
use native.Mathlib.Omega.{arith}
use lib.ListN.{get_or, take, drop}
use lib.Seq.{drop-drop}
use Rattle.plan.specs.Reading.{request}
use Rattle.report.specs.Read.{row_entry, entries_in}

-- the kth row
unfoldable pub row_at : List ℕ → ℕ → List ℕ
row_at rows k = take 21 (drop (21 * k) rows)

-- each entry of n rows is that of its row
pub entry_at : (n : ℕ) (rows : List ℕ) (i : ℕ) → i < n → get_or (entries_in n rows) i request ≡ row_entry (row_at rows i)
unfolding entries_in row_at
entry_at zero rows i h = absurd (omega arith)
entry_at (suc n) rows zero h = refl
entry_at (suc n) rows (suc i) h =
    let further : 21 + 21 * i ≡ 21 * suc i = omega arith in
    entry_at n (drop 21 rows) i (omega arith)
    ∙ ap (λ (l : List ℕ). row_entry (take 21 l)) (drop-drop (21 * i) 21 rows ∙ ap (λ (k : ℕ). drop k rows) further)

-- the part of a record that is a row
pub part-row : (rows : List ℕ) (k : ℕ) → take (21 * k + 21 - 21 * k) (drop (21 * k) rows) ≡ row_at rows k
unfolding row_at
part-row rows k =
    let wide : 21 * k + 21 - 21 * k ≡ 21 = omega arith in
    ap (λ (n : ℕ). take n (drop (21 * k) rows)) wide
