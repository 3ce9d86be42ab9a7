-- The head in an array, and an array that is none.
-- Assumes nothing.
use mathlib.Core.Path.{◌≡◌, ◌∙◌}
use mathlib.Core.List.{List}
use Prim.Native.Nat.{ℕ}
use borrow.Author.Tests.{eq-eqb, ne_eqb}
use lib.ListN.{length}
use Rattle.head.specs.State.{power_on}
use Rattle.head.specs.Row.{places, numbers_of, state_of}
use Rattle.head.specs.declared.state.Head.{Head}
use Rattle.interface.specs.State.{well_formed, head_of, stored_in}

module _ (l : List ℕ) where
  pub head-there : length l ≡ places → {h : Head} → h ≡ state_of l → h ≡ head_of l
  unfolding head_of well_formed
  head-there e is = is ∙ rw (eq-eqb (length l) places e)

  pub head-none : (length l ≡ places → ⊥) → {h : Head} → h ≡ power_on → h ≡ head_of l
  unfolding head_of well_formed
  head-none e is = is ∙ rw (ne_eqb (length l) places e)

  pub head-is : length l ≡ places → {h : Head} → h ≡ head_of l → h ≡ state_of l
  unfolding head_of well_formed
  head-is e is = is ∙ rw (eq-eqb (length l) places e)

  module _ (h : Head) where
    pub stored_there : length l ≡ places → {k : List ℕ} → k ≡ numbers_of h → k ≡ stored_in h l
    unfolding stored_in well_formed
    stored_there e is = is ∙ rw (eq-eqb (length l) places e)

    pub stored-none : (length l ≡ places → ⊥) → l ≡ stored_in h l
    unfolding stored_in well_formed
    stored-none e = rw (ne_eqb (length l) places e)

    pub stored_is : length l ≡ places → {k : List ℕ} → k ≡ stored_in h l → k ≡ numbers_of h
    unfolding stored_in well_formed
    stored_is e is = is ∙ rw (eq-eqb (length l) places e)
