-- A register set through the row of registers: the place of its kind is that of the register of its name.
-- Assumes nothing.
use mathlib.Core.Path.{◌≡◌, refl, sym, subst}
use mathlib.Core.Bool.{Bool, true, false, ◌&&◌}
use Prim.Native.Nat.{ℕ, zero, suc, ◌+◌, ◌<◌, ◌≤◌}
use native.Mathlib.Decide.{ℕ_discrete}
use native.Mathlib.Omega.{arith}
use borrow.Author.Tests.{leb-false}
use lib.Dec.{leb}
use mathlib.Core.List.{List}
use lib.ListN.{set}
use Rattle.words.specs.Kinds as kind
use Rattle.head.specs.Apply.{after}
use Rattle.head.specs.Row.{registers, register_numbers, settings_of}
use Rattle.head.specs.ByRow.{place_of}
use Rattle.head.specs.declared.state.Settings.{Settings}
use Rattle.head.specs.declared.state.Head.{Head}

-- P of each of the n numbers from a on
abbrev Each : (ℕ → Type 0) → ℕ → ℕ → Type 0
Each P a zero = Unit {0}
Each P a (suc n) = P a × Each P (suc a) n

each_at : (P : ℕ → Type 0) (n a : ℕ) → Each P a n → (k : ℕ) → a ≤ k → k < a + n → P k
each_at P zero a all k low high = absurd (omega arith)
each_at P (suc n) a all k low high = go (each_at P n (suc a) all.1 k) (ℕ_discrete k a)
  where
    go : (suc a ≤ k → k < suc a + n → P k) → Dec (k ≡ a) → P k
    go later (yes e) = subst P (sym e) all.0
    go later (no ne) = later (omega arith) (omega arith)

-- the state with other registers
abbrev pub with : Head → Settings → Head
with s r =
    record { settings = r; latches = s.latches; flags = s.flags; work = s.work; motion = s.motion; begun = s.begun }

-- a kind between STOP and the mirror words, not of the detector's voltages, sets one register
module _ (P : ℕ → Type 0) (first : Each P kind.ir_detector 2) (rest : Each P kind.ir_delay 12) where
  plain : (k : ℕ) → kind.stop < k → k < kind.sin_m → (leb kind.vdetcom_m k && leb k kind.vdetadj_l) ≡ false → P k
  plain k low high other = go (leb kind.vdetcom_m k) refl
    where
      go : (x : Bool) → leb kind.vdetcom_m k ≡ x → P k
      go false e =
          let below = leb-false kind.vdetcom_m k e in
          each_at P 2 kind.ir_detector first k (omega arith) (omega arith)
      go true e =
          let above = leb-false k kind.vdetadj_l (rw e at other) in
          each_at P 12 kind.ir_delay rest k (omega arith) (omega arith)

abbrev Inside : ℕ → Type 0
Inside k = place_of k < registers

inside-first : Each Inside kind.ir_detector 2
unfolding place_of
inside-first = omega arith

inside-rest : Each Inside kind.ir_delay 12
unfolding place_of
inside-rest = omega arith

module _ (s : Head) (b : ℕ) where
  abbrev Sets : ℕ → Type 0
  Sets k = with s (settings_of (set (register_numbers s.settings) (place_of k) b)) ≡ after s k b

  sets_first : Each Sets kind.ir_detector 2
  unfolding place_of after
  sets_first = (refl, (refl, tt))

  sets-rest : Each Sets kind.ir_delay 12
  unfolding place_of after
  sets-rest = (refl, (refl, (refl, (refl, (refl, (refl, (refl, (refl, (refl, (refl, (refl, (refl, tt))))))))))))

module _ (k : ℕ) (low : kind.stop < k) (high : k < kind.sin_m) (other : (leb kind.vdetcom_m k && leb k kind.vdetadj_l) ≡ false) where
  pub place_inside : place_of k < registers
  place_inside = plain Inside inside-first inside-rest k low high other

  pub register-set : (s : Head) (r : Settings) (b at : ℕ) (row : List ℕ) → row ≡ register_numbers s.settings → at ≡ place_of k
      → r ≡ settings_of (set row at b) → with s r ≡ after s k b
  register-set s r b at row is here e = rw (e, is, here) (plain (Sets s b) (sets_first s b) (sets-rest s b) k low high other)
