-- Words handed over, and the exported refusal: m is the array in which the words are put, old the caller's.
-- Assumes nothing.
use mathlib.Core.Path.{◌≡◌}
use mathlib.Core.Bool.{true, false, cond, not, ◌&&◌}
use mathlib.Core.List.{List}
use Prim.Native.Nat.{ℕ, ◌≤◌, ◌<◌, ◌^◌}
use native.Mathlib.Omega.{arith}
use borrow.Author.Tests.{lt-leb, le-leb, not-true, not-false}
use lib.Dec.{leb}
use lib.ListN.{length, take}
use Rattle.layout.specs.Written.{Written, Front}
use Rattle.layout.proofs.Writing.{written-front, front-text}
use Rattle.report.specs.Refusal.{refusal_text}
use Rattle.report.proofs.Fitting.{refusal-fits}
use Rattle.texts.specs.Texts.{has_room, text_after, room_answer, is_refusal, refusal_length, refusal_left}

-- the ways through `hand_over_wording`
module _ (made old : List ℕ) where
  pub unworded-answer : length old < length made → 0 ≡ cond (has_room made old) (length made) 0
  unworded-answer less = rw (lt-leb (length made) (length old) less)

  pub worded-answer : length made ≤ length old → {k : ℕ} → k ≡ length made → k ≡ cond (has_room made old) (length made) 0
  worded-answer most is = rw (le-leb (length made) (length old) most) is

-- a text that was made at the front of an array, and is handed over
module _ (text : List ℕ) {m : List ℕ} {n : ℕ} {made : List ℕ} (front : Front m text n made) (old : List ℕ) where
  pub handed-length : {r : ℕ} → r ≡ cond (has_room (take n made) old) (length (take n made)) 0 → r ≡ cond (has_room text old) (length text) 0
  handed-length is = rw (front-text front) at is

  pub handed-answer : {r : ℕ} → r ≡ room_answer (take n made) old → r ≡ room_answer text old
  handed-answer is = rw (front-text front) at is

  pub handed-left : {new : List ℕ} → new ≡ text_after (has_room (take n made) old) (take n made) old → new ≡ text_after (has_room text old) text old
  handed-left is = rw (front-text front) at is

-- a refusal of a plan in an array of 1,024 places
module _ (number place : ℕ) (bs : List ℕ) {m : List ℕ} {n : ℕ} {made : List ℕ} (w : Written m 0 (refusal_text number place bs) n made)
    (whole : length m ≡ 1024) where
  wording-front : Front m (refusal_text number place bs) n made
  wording-front = written-front w (omega (arith, refusal-fits number place bs))

  pub worded-count : n ≡ length (take n made)
  worded-count = wording-front.counts.1

  pub worded-few : length (take n made) < 2 ^ 32
  worded-few = rw (front-text wording-front) (omega (arith, refusal-fits number place bs))

  module _ (old : List ℕ) where
    pub worded-length : {r : ℕ} → r ≡ cond (has_room (take n made) old) (length (take n made)) 0
        → r ≡ cond (has_room (refusal_text number place bs) old) (length (refusal_text number place bs)) 0
    worded-length = handed-length (refusal_text number place bs) wording-front old

    pub worded-left : {new : List ℕ} → new ≡ text_after (has_room (take n made) old) (take n made) old
        → new ≡ text_after (has_room (refusal_text number place bs) old) (refusal_text number place bs) old
    worded-left = handed-left (refusal_text number place bs) wording-front old

-- the exported function
module _ (number place : ℕ) (bs old : List ℕ) where
  abbrev words : List ℕ
  words = refusal_text number place bs

  module _ (bad : not (leb 1 number && leb number 10) ≡ true) where
    unknown : is_refusal number ≡ false
    unfolding is_refusal
    unknown = not-true (leb 1 number && leb number 10) bad

    pub refusal-none : 0 ≡ refusal_length number place bs old
    unfolding refusal_length
    refusal-none = rw unknown

    pub refusal-kept : old ≡ refusal_left number place bs old
    unfolding refusal_left text_after
    refusal-kept = rw unknown

  module _ (good : not (leb 1 number && leb number 10) ≡ false) where
    known : is_refusal number ≡ true
    unfolding is_refusal
    known = not-false (leb 1 number && leb number 10) good

    pub refusal-length : {r : ℕ} → r ≡ cond (has_room words old) (length words) 0 → r ≡ refusal_length number place bs old
    unfolding refusal_length
    refusal-length e = rw known e

    pub refusal-left : {new : List ℕ} → new ≡ text_after (has_room words old) words old → new ≡ refusal_left number place bs old
    unfolding refusal_left
    refusal-left e = rw known e
