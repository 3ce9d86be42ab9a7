-- A test: where it fails the refusal is the answer, and where it holds the later tests decide.
-- Assumes nothing.
use mathlib.Core.Path.{◌≡◌}
use mathlib.Core.Bool.{Bool, true, false, cond, not}
use Prim.Native.Nat.{ℕ}
use borrow.Author.Tests.{eq-eqb, ne_eqb}
use lib.Dec.{eqb}
use Rattle.std.specs.Prelude.{Result, Err}
use Rattle.std.specs.Result.{result_map_both}
use Rattle.blocks.specs.declared.refusal.Refusal.{Refusal}
use Rattle.blocks.specs.declared.refusal.Refusal.TheVariants.{Length}

pub stops : {A : Type 0} (t b : Bool) (r a : A) → b ≡ t → not b ≡ true → r ≡ cond (not t) r a
stops t b r a e f = simp (← e, f)

pub passes : {A : Type 0} (t b : Bool) (x r a : A) → b ≡ t → not b ≡ false → x ≡ a → x ≡ cond (not t) r a
passes t b x r a e f g = simp (← e, f) g

-- the test of a length
pub unequal : {A : Type 0} (m n : ℕ) (r a : A) → (m ≡ n → ⊥) → r ≡ cond (not (eqb m n)) r a
unequal m n r a e = simp (ne_eqb m n e)

pub equal : {A : Type 0} (m n : ℕ) (x r a : A) → m ≡ n → x ≡ a → x ≡ cond (not (eqb m n)) r a
equal m n x r a e g = simp (eq-eqb m n e) g

-- what is read, where the length is right: what the status words say, and the readings with it
pub reading : {M B : Type 0} (block : M → B) (m n : ℕ) (j a : Result M Refusal) (r : Result B Refusal) → m ≡ n → j ≡ a
    → r ≡ result_map_both block (λ (e : Refusal). e) j
    → r ≡ result_map_both block (λ (e : Refusal). e) (cond (not (eqb m n)) (Err Length) a)
reading block m n j a r sized is told = rw (eq-eqb m n sized, ← is) told
