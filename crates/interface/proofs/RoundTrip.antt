-- A state's numbers lead back to the state, and the state of an array of 35 places to the array: so a state that is refused stays as it was
-- given.
-- Assumes nothing.
use mathlib.Core.Path.{◌≡◌, refl, sym}
use mathlib.Core.Bool.{true}
use mathlib.Core.List.{List}
use Prim.Native.Nat.{ℕ}
use borrow.Author.Tests.{eqb-true}
use lib.ListN.{length}
use Rattle.head.specs.Row.{places, settings_of, numbers_of, state_of}
use Rattle.head.specs.declared.state.Settings.{Settings}
use Rattle.head.specs.declared.state.Head.{Head}
use Rattle.interface.specs.State.{well_formed}
use Rattle.interface.proofs.Storing.{listed}

pub state-numbers : (s : Head) → state_of (numbers_of s) ≡ s
unfolding numbers_of
state-numbers s = refl

-- `load`: r are the registers
pub loaded : (l : List ℕ) (r : Settings) → r ≡ settings_of l
    → record {
      settings = r;
      latches = (state_of l).latches;
      flags = (state_of l).flags;
      work = (state_of l).work;
      motion = (state_of l).motion;
      begun = (state_of l).begun;
    }
    ≡ state_of l
loaded l r e = rw e

module _ (l : List ℕ) (ok : well_formed l ≡ true) where
  pub well-formed-length : length l ≡ places
  unfolding well_formed
  well-formed-length = eqb-true (length l) places ok

  pub numbers-state : numbers_of (state_of l) ≡ l
  unfolding numbers_of
  numbers-state = sym (listed l places well-formed-length)
