-- In all 9,133 of the 65,536 words are allowed. antt counts them identifier by identifier: the kind is looked up once for 1,024 words.
-- Assumes nothing.
use mathlib.Core.Path.{◌≡◌, refl, sym}
use mathlib.Core.Bool.{Bool, true, false, cond}
use Prim.Native.Nat.{ℕ, zero, suc, ◌+◌, ◌*◌, ◌<◌, ◌≤◌}
use native.Mathlib.Nat.{add-zero, zero-add, add-suc, add_assoc, suc-mul}
use native.Mathlib.Omega.{arith}
use borrow.Author.Tests.{ltb-false}
use lib.Arith.{digits_div, digits_mod}
use lib.Dec.{ltb}
use Rattle.words.specs.Kinds.{rows, least, greatest, allowed, kind_from, kind_of, kinds}
use Rattle.words.specs.Codec.{decode_of, judged}
use Rattle.words.specs.Count.{one, allowed_below}
use Rattle.std.specs.Prelude.{Err}
use Rattle.words.specs.declared.DecodeError.TheVariants.{Unknown}
use Rattle.words.proofs.Allowed.{allowed-none}

-- how many of the data below n are allowed for kind k, and how many words have an identifier below i
of_kind : ℕ → ℕ → ℕ
of_kind k zero = 0
of_kind k (suc d) = one (judged k d) + of_kind k d

of_identifiers : ℕ → ℕ
of_identifiers zero = 0
of_identifiers (suc i) = of_kind (kind_of i) 1024 + of_identifiers i

-- a word counts as its data do for the kind of its identifier
counts : (i d : ℕ) → d < 1024 → one (decode_of (i * 1024 + d)) ≡ one (judged (kind_of i) d)
unfolding decode_of kinds judged
counts i d h = rw (digits_div i {m = 1024} h, digits_mod i {m = 1024} h) (go (ltb (kind_of i) 28) refl)
  where
    go : (b : Bool) → ltb (kind_of i) 28 ≡ b → one (cond (ltb (kind_of i) 28) (judged (kind_of i) d) (Err Unknown)) ≡ one (judged (kind_of i) d)
    go true p = rw p
    go false p = rw (p, ← allowed-none (kind_of i) d (ltb-false (kind_of i) 28 p))

block : (i n : ℕ) → n ≤ 1024 → allowed_below (i * 1024 + n) ≡ of_kind (kind_of i) n + allowed_below (i * 1024)
unfolding allowed_below of_kind
block i zero h = rw (add-zero (i * 1024), zero-add (allowed_below (i * 1024)))
block i (suc n) h = rw (add-suc (i * 1024) n, counts i n h, block i n (omega arith)) (sym (add_assoc (one (judged (kind_of i) n)) (of_kind (kind_of i) n) (allowed_below (i * 1024))))

blocks : (i : ℕ) → allowed_below (i * 1024) ≡ of_identifiers i
unfolding allowed_below of_identifiers
blocks zero = refl
blocks (suc i) = rw (suc-mul i 1024, block i 1024 (omega arith), blocks i)

pub allowed-words : allowed_below 65536 ≡ 9133
unfolding of_identifiers of_kind judged kind_of kind_from rows allowed least greatest
allowed-words = blocks 64
