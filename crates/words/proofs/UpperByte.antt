-- Laws of the second decoder: a table of 256 entries names the kind of each upper byte, and a word's kind is that of its upper byte.
-- Assumes nothing.
use mathlib.Core.Path.{◌≡◌, ap, ◌∙◌}
use mathlib.Core.List.{List}
use Prim.Native.Nat.{ℕ, ◌*◌, ◌<◌, ◌/◌}
use native.Mathlib.Omega.{arith}
use lib.Dec.{T}
use lib.ListN.{get_or}
use Rattle.words.specs.Kinds.{identifier, bits_of, kind_of}
use Rattle.words.specs.Codec.{meaning_of, decode_of}
use Rattle.words.specs.UpperByte.{kind_of_byte}
use Rattle.words.proofs.Tables.{tabulates, tabulates-at}

pub byte-kind : (t : List ℕ) (b : ℕ) → T (tabulates t kind_of_byte 256) → b < 256 → get_or t b 0 ≡ kind_of_byte b
byte-kind t b ok h = tabulates-at t kind_of_byte 256 ok b h

pub kind-by-byte : (w : ℕ) {k : ℕ} → k ≡ kind_of_byte (w / 256) → k ≡ kind_of (identifier w)
unfolding kind_of_byte
kind-by-byte w is = is ∙ ap kind_of same
  where
    same : w / 256 * 256 / 1024 ≡ w / 1024
    same = omega arith

-- a word of upper byte b is decoded by the kind of the byte
pub meaning-by-byte : (w k : ℕ) → k ≡ kind_of_byte (w / 256) → meaning_of k (bits_of w) ≡ decode_of w
unfolding decode_of
meaning-by-byte w k is = ap (λ (n : ℕ). meaning_of n (bits_of w)) (kind-by-byte w is)
