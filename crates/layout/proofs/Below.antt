-- The texts of the numbers below a bound, written one after another.
-- Assumes nothing.
use mathlib.Core.Path.{◌≡◌}
use mathlib.Core.List.{List}
use Prim.Native.Nat.{ℕ, zero, suc, ◌+◌, ◌*◌, ◌≤◌, ◌<◌}
use native.Mathlib.Nat.{suc-mul}
use native.Mathlib.Numerals.{add-one}
use native.Mathlib.Omega.{arith}
use lib.ListN.{length, length-append}
use Rattle.layout.specs.Below.{texts_below}
use Rattle.layout.specs.Adds.{Adds}
use Rattle.layout.specs.declared.writer.Writer.{Writer}
use Rattle.layout.proofs.Adding.{adds_then, adds_none}

-- those below n, of so many, are added
pub record TextsAdded (text : ℕ → List ℕ) (all : ℕ) (old new : Writer) (n : ℕ) : Type 0 where
  pub few : n ≤ all
  pub part : Adds old new (texts_below text n)

pub texts-first : {text : ℕ → List ℕ} {all : ℕ} {w : Writer} → TextsAdded text all w w 0
unfolding texts_below
texts-first {w = w} = record { few = omega arith; part = adds_none w }

module _ {text : ℕ → List ℕ} {all : ℕ} {old new : Writer} {n : ℕ} (h : TextsAdded text all old new n) where
  pub texts-next : n < all → {new' : Writer} → Adds new new' (text n) → TextsAdded text all old new' (n + 1)
  unfolding texts_below
  texts-next more w = record { few = omega arith; part = rw (add-one n) (adds_then h.part w) }

  pub texts-done : all ≤ n → Adds old new (texts_below text all)
  texts-done past = let e : n ≡ all = let few = h.few in omega arith in rw e at h.part

-- texts that are all of one length
pub texts-long : (text : ℕ → List ℕ) (one : ℕ) → ((n : ℕ) → length (text n) ≡ one) → (n : ℕ) → length (texts_below text n) ≡ n * one
unfolding texts_below
texts-long text one each zero = omega arith
texts-long text one each (suc n) =
    omega (arith, length-append (texts_below text n) (text n), texts-long text one each n, each n, suc-mul n one)
