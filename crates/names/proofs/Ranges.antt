-- The ranges of a byte: b is the upper byte, l the lower.
-- Assumes nothing.
use mathlib.Core.Path.{◌≡◌, refl}
use mathlib.Core.Bool.{Bool, true, false, ◌||◌}
use Prim.Native.Nat.{ℕ, ◌+◌, ◌≤◌, ◌<◌}
use native.Mathlib.Numerals.{add-one}
use native.Mathlib.Omega.{arith}
use lib.Dec.{eqb}
use Rattle.std.specs.Prelude.{Result, Ok, Err, is_ok}
use Rattle.words.specs.Codec.{decode_error_number, decoded_number, finding_number}
use Rattle.words.specs.declared.Word.{Word}
use Rattle.words.specs.declared.DecodeError.{DecodeError}
use Rattle.words.specs.declared.DecodeError.TheVariants.{Unknown, OutOfRange}
use Rattle.names.specs.Table.{is_allowed, any_below}

-- the decoder finds nothing to refuse exactly where it gives a word
pub found_allowed : (w : ℕ) (r : Result Word DecodeError) → decoded_number r ≡ finding_number w → is_ok r ≡ eqb (finding_number w) 0
unfolding decoded_number decode_error_number
found_allowed w r finding = rw (← finding) (go r)
  where
    go : (r : Result Word DecodeError) → is_ok r ≡ eqb (decoded_number r) 0
    go (Ok v) = refl
    go (Err Unknown) = refl
    go (Err (OutOfRange k)) = refl

-- whether any word below l is allowed
pub record AnyFound (b : ℕ) (any : Bool) (l : ℕ) : Type 0 where
  pub few : l ≤ 256
  pub part : any ≡ any_below b l

pub any-first : {b : ℕ} → AnyFound b false 0
unfolding any_below
any-first = record { few = omega arith; part = refl }

module _ {b : ℕ} {any : Bool} {l : ℕ} (h : AnyFound b any l) where
  pub any_next : l < 256 → {x : Bool} → x ≡ is_allowed b l → AnyFound b (any || x) (l + 1)
  unfolding any_below
  any_next more is = record { few = omega arith; part = rw (add-one l, h.part, is) }

  pub any-done : 256 ≤ l → any ≡ any_below b 256
  any-done all = let e : l ≡ 256 = let few = h.few in omega arith in rw e at h.part
