-- The ways through the exported writers: n is the block's length and count that of its readings, l the state's array, old the buffer
-- as it was given.
-- Assumes nothing.
use mathlib.Core.Path.{◌≡◌, sym, ◌∙◌}
use mathlib.Core.Bool.{Bool, true, false, not}
use mathlib.Core.List.{List}
use Prim.Native.Nat.{ℕ}
use borrow.Author.Tests.{eq-eqb, ne_eqb, not-true, not-false}
use lib.ListN.{length}
use Rattle.head.specs.declared.state.Head.{Head}
use Rattle.head.specs.declared.state.Flags.{Flags}
use Rattle.blocks.specs.Numbers.{refusal_number, written_number}
use Rattle.blocks.specs.Written.{written_if, written_of, buffer_after}
use Rattle.blocks.specs.declared.refusal.Refusal.TheVariants.{Length, State}
use Rattle.std.specs.Prelude.{Result, Err}
use Rattle.blocks.specs.declared.refusal.Refusal.{Refusal}
use Rattle.head.specs.Row.{state_of}
use Rattle.interface.specs.State.{well_formed, valid}
use Rattle.interface.specs.Blocks.{block_written}

module _ (n count : ℕ) (l readings old : List ℕ) where
  abbrev here : Result (Unit {0}) Refusal
  here = block_written n count l readings old

  module _ (short : length readings ≡ count → ⊥) where
    few : here ≡ Err Length
    unfolding block_written
    few = rw (ne_eqb (length readings) count short)

    pub few-number : (r : ℕ) → r ≡ refusal_number Length → r ≡ written_number here
    few-number r is = rw few is

    pub few-left : (block : List ℕ) → old ≡ buffer_after here block old
    unfolding buffer_after
    few-left block = rw few

  module _ (enough : length readings ≡ count) where
    module _ (other : length old ≡ n → ⊥) where
      unfit : here ≡ Err Length
      unfolding block_written written_if
      unfit = rw (eq-eqb (length readings) count enough, ne_eqb (length old) n other)

      pub unfit-number : (r : ℕ) → r ≡ refusal_number Length → r ≡ written_number here
      unfit-number r is = rw unfit is

      pub unfit-left : (block : List ℕ) → old ≡ buffer_after here block old
      unfolding buffer_after
      unfit-left block = rw unfit

    module _ (b : Bool) (is : b ≡ well_formed l) where
      module _ (long : length old ≡ n) (bad : not b ≡ true) where
        ill : here ≡ Err State
        unfolding block_written written_if valid
        ill = rw (eq-eqb (length readings) count enough, eq-eqb (length old) n long, sym is ∙ not-true b bad)

        pub ill-number : (r : ℕ) → r ≡ refusal_number State → r ≡ written_number here
        ill-number r is = rw ill is

        pub ill-left : (block : List ℕ) → old ≡ buffer_after here block old
        unfolding buffer_after
        ill-left block = rw ill

      module _ (good : not b ≡ false) (h : Head) (loaded : h ≡ state_of l) (w : Result (Unit {0}) Refusal) (answered : w ≡ written_of n h old) where
        same-written : w ≡ here
        unfolding block_written written_of valid
        same-written = answered ∙ rw (loaded, eq-eqb (length readings) count enough, sym is ∙ not-false b good)

        pub written-answer : (r : ℕ) → r ≡ written_number w → r ≡ written_number here
        written-answer r e = rw (← same-written) e

-- the buffer that is left, where the state was well formed
module _ {B : Type 0} (block_of : Head → Flags → Bool → List ℕ → B → List ℕ) (n count : ℕ) (l readings old after rs : List ℕ)
    (fs shown : Flags) (ended : Bool) (bs bits : B) (ef : fs ≡ shown) (er : rs ≡ readings) (eb : bs ≡ bits) where
  pub written-left : (b : Bool) → b ≡ well_formed l → not b ≡ false → (h : Head) → h ≡ state_of l → length readings ≡ count
      → (w : Result (Unit {0}) Refusal) → w ≡ written_of n h old → after ≡ buffer_after w (block_of h fs ended rs bs) old
      → after ≡ buffer_after (block_written n count l readings old) (block_of (state_of l) shown ended readings bits) old
  written-left b is good h loaded enough w answered e =
      rw (← same-written n count l readings old enough b is good h loaded w answered, ← loaded, ← ef, ← er, ← eb) e
