-- The orders of a plan counted up to a place.
-- Assumes nothing.
use mathlib.Core.Path.{◌≡◌, refl, sym, ◌∙◌}
use mathlib.Core.List.{List}
use Prim.Native.Nat.{ℕ, suc, ◌+◌, ◌-◌, ◌*◌, ◌≤◌, ◌<◌}
use native.Mathlib.Omega.{arith}
use borrow.Author.Tests.{le-leb, lt-leb}
use Rattle.plan.specs.Stored.{byte_at}
use Rattle.report.specs.Refusal.{index_from, order_index}

-- the order at a place has this index, and none before it is the one that is looked for
pub record Counting (bs : List ℕ) (place at index : ℕ) : Type 0 where
  pub few : index ≤ 65
  pub near : at ≤ 256 * index
  pub left : order_index bs place ≡ index_from (65 - index) bs place at index

pub counting-first : {bs : List ℕ} {place : ℕ} → Counting bs place 3 1
unfolding order_index
counting-first = record { few = omega arith; near = omega arith; left = refl }

module _ {bs : List ℕ} {place at index : ℕ} (h : Counting bs place at index) where
  module _ (more : index < 65) where
    here : order_index bs place ≡ index_from (suc (64 - index)) bs place at index
    here = let e : 65 - index ≡ suc (64 - index) = omega arith in h.left ∙ rw e

    pub counting-found : place ≤ at → index ≡ order_index bs place
    unfolding index_from
    counting-found found = sym (here ∙ rw (le-leb place at found))

    pub counting-next : at < place → {b : ℕ} → b ≡ byte_at bs at → b < 256 → Counting bs place (at + 1 + b) (index + 1)
    unfolding index_from
    counting-next past is small =
        let near = h.near in
        let e : 64 - index ≡ 65 - (index + 1) = omega arith in
        record { few = omega arith; near = omega arith; left = here ∙ rw (lt-leb place at past, ← is, e) }

  pub counting-last : 65 ≤ index → index ≡ order_index bs place
  unfolding index_from
  counting-last all = let few = h.few in let e : 65 - index ≡ 0 = omega arith in sym (h.left ∙ rw e)
