-- The acts of one word put into a log: their rows, and the tick of each.
-- Assumes nothing.
use mathlib.Core.Path.{◌≡◌, ◌∙◌}
use mathlib.Core.List.{List, [], ◌∷◌}
use Prim.Native.Nat.{ℕ, ◌+◌, ◌*◌}
use lib.ListN.{length, set, replicate}
use lib.Seq.{sets}
use Rattle.plan.specs.Reading.{Entry}
use Rattle.plan.specs.Rows.{entry_row, rows_of}
use Rattle.plan.proofs.Recorded.{one-row, no_row}

-- what is promised of the number of acts, the rows and the ticks after the entries of a word at a tick
abbrev pub Logged : List ℕ → List ℕ → ℕ → ℕ → List Entry → ℕ → List ℕ → List ℕ → Type 0
Logged rows times acts tick es acts' rows' times' =
    (acts' ≡ acts + length es)
    × ((rows' ≡ sets rows (21 * acts) (rows_of es))
    × (times' ≡ sets times acts (replicate (length es) tick)))

module _ (rows times : List ℕ) (acts tick : ℕ) where
  pub act-put : {e : Entry} {es : List Entry} {row rows' times' : List ℕ} {acts' : ℕ} → es ≡ e ∷ [] → row ≡ entry_row e
      → (acts' ≡ acts + 1) × ((rows' ≡ sets rows (21 * acts) row) × (times' ≡ set times acts tick))
      → Logged rows times acts tick es acts' rows' times'
  act-put one is put = let p = one-row rows acts put.1.0 is one in (put.0 ∙ p.0, (p.1, rw one put.1.1))

  pub act-none : {es : List Entry} → es ≡ [] → Logged rows times acts tick es acts rows times
  act-none none = let p = no_row rows acts none in (p.0, (p.1, rw none))
