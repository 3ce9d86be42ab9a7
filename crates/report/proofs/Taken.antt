-- The outcomes of words that were taken, counted.
-- Assumes nothing.
use mathlib.Core.Path.{◌≡◌, refl, sym, ap, ◌∙◌}
use mathlib.Core.Bool.{Bool, true, false, cond, not}
use native.Mathlib.Nat.{zero-add}
use mathlib.Core.List.{List}
use Prim.Native.Nat.{ℕ, ◌+◌, ◌≤◌}
use lib.ListN.{length, take, drop}
use lib.Seq.{take_at, length-take-le}
use Rattle.head.specs.Numbers.{is_cause}
use Rattle.head.specs.List.{numbers_listed, list_of, outcomes_after}
use Rattle.head.specs.declared.state.Head.{Head}
use Rattle.head.specs.declared.list.Listed.{Listed}
use Rattle.std.specs.Prelude.{Ok}
use Rattle.std.specs.List.{count_by}
use Rattle.std.proofs.lemmas.List.Recursion.{is_count_by}
use Rattle.head.proofs.Giving.{numbers-long}
use Rattle.layout.specs.Numbers.{bit}
use Rattle.report.specs.Report.{taken_in}

-- those that are taken, as the chain counts them
pub taken_in-count : (ns : List ℕ) → taken_in ns ≡ count_by (λ n. not (is_cause n)) ns
unfolding taken_in
taken_in-count = is_count_by taken_in (λ n. not (is_cause n)) refl (λ n ns. one (not (is_cause n)) (taken_in ns))
  where
    one : (z : Bool) (k : ℕ) → bit z + k ≡ cond z (1 + k) k
    one true k = refl
    one false k = zero-add k

-- the outcomes of a list that was given whole
pub given-taken : (s : Head) (ws ts old : List ℕ) {room : ℕ} {after : List ℕ} {r : Listed} → length old ≡ room → length ws ≡ length ts
    → (list_of s ws ts room).answer ≡ Ok tt
    → r ≡ list_of s ws ts (length old)
    → after ≡ outcomes_after r.answer (numbers_listed ws ts s) old
    → {n : ℕ} → n ≡ taken_in (take (length ws) after) → n ≡ taken_in (numbers_listed ws ts s)
unfolding outcomes_after
given-taken s ws ts old long even done listed is counted =
    counted
    ∙ ap taken_in
    (ap (take (length ws)) (rw (listed, long, done) at is)
    ∙ take_at (numbers_listed ws ts s) (drop (length (numbers_listed ws ts s)) old) (length ws) (numbers-long ws ts s even))

-- the first places of a list that has as many
pub prefix-long : (n : ℕ) (l : List ℕ) → n ≤ length l → n ≡ length (take n l)
prefix-long n l h = sym (length-take-le n l h)
