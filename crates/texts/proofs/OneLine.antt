-- Refusals in words that are one line: the words in an array of 256 places, and the ways through an exported refusal.
-- Assumes nothing.
use mathlib.Core.Path.{◌≡◌}
use mathlib.Core.Bool.{Bool, true, false, cond, not}
use mathlib.Core.List.{List}
use Prim.Native.Nat.{ℕ, ◌≤◌, ◌<◌, ◌^◌}
use native.Mathlib.Omega.{arith}
use borrow.Author.Tests.{not-true, not-false}
use lib.ListN.{length, take}
use Rattle.layout.specs.Written.{Written, Front}
use Rattle.layout.proofs.Writing.{written-front, front-text}
use Rattle.texts.specs.Texts.{has_room, text_after, words_length, words_left}
use Rattle.texts.proofs.Wording.{handed-length, handed-left}

-- words in an array of 256 places
module _ (text : List ℕ) {m : List ℕ} {n : ℕ} {made : List ℕ} (w : Written m 0 text n made) (whole : length m ≡ 256) (few : length text ≤ 256) where
  words-front : Front m text n made
  words-front = written-front w (omega arith)

  pub words_count : n ≡ length (take n made)
  words_count = words-front.counts.1

  pub words-few : length (take n made) < 2 ^ 32
  words-few = rw (front-text words-front) (omega arith)

  module _ (old : List ℕ) where
    pub words-length : {r : ℕ} → r ≡ cond (has_room (take n made) old) (length (take n made)) 0 → r ≡ words_length true text old
    unfolding words_length
    words-length e = handed-length text words-front old e

    pub words_left_lem : {new : List ℕ} → new ≡ text_after (has_room (take n made) old) (take n made) old → new ≡ words_left true text old
    unfolding words_left
    words_left_lem e = handed-left text words-front old e

-- an exported refusal: b is whether the number has words
module _ (text old : List ℕ) (b : Bool) where
  module _ (bad : not b ≡ true) where
    pub no-words-length : 0 ≡ words_length b text old
    unfolding words_length
    no-words-length = rw (not-true b bad)

    pub no-words-left : old ≡ words_left b text old
    unfolding words_left text_after
    no-words-left = rw (not-true b bad)

  module _ (good : not b ≡ false) where
    pub known-length : {r : ℕ} → r ≡ words_length true text old → r ≡ words_length b text old
    known-length e = rw (not-false b good) e

    pub known-left : {new : List ℕ} → new ≡ words_left true text old → new ≡ words_left b text old
    known-left e = rw (not-false b good) e
