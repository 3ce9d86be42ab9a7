-- A text that was made at the front of an array m, and is handed over into another, old; l is the state's array.
-- Assumes nothing.
use mathlib.Core.Path.{◌≡◌, refl, sym, ◌∙◌}
use mathlib.Core.Bool.{Bool, true, false, cond, not}
use mathlib.Core.List.{List}
use Prim.Native.Nat.{ℕ, ◌≤◌, ◌<◌, ◌^◌}
use borrow.Author.Tests.{lt-leb, le-leb, eq-eqb, not-true}
use lib.Dec.{eqb}
use lib.ListN.{length, take}
use Rattle.head.specs.Row.{places}
use Rattle.head.specs.declared.state.Head.{Head}
use Rattle.schedule.specs.Translate.{most_words, translation_number, translation_place}
use Rattle.layout.specs.Adds.{Adds}
use Rattle.layout.specs.Written.{Front}
use Rattle.layout.specs.declared.writer.Writer.{Writer}
use Rattle.layout.proofs.Adding.{adds_front}
use Rattle.layout.proofs.Writing.{front-text}
use Rattle.interface.specs.State.{well_formed}
use Rattle.interface.specs.Plans.{packed}
use Rattle.texts.specs.Texts.{has_room, text_after, counted_answer, room_answer, text_answer, is_put, number_for, place_for}

-- the ways through `hand_over_counted`
module _ (made old : List ℕ) (count : ℕ) where
  module _ (less : length old < length made) where
    pub no-room-answer : {r : ℕ} → r ≡ packed 10 count (length made) → r ≡ counted_answer count made old
    unfolding counted_answer
    no-room-answer is = is ∙ rw (lt-leb (length made) (length old) less)

  module _ (most : length made ≤ length old) where
    pub room-answer : {r : ℕ} → r ≡ packed 0 count (length made) → r ≡ counted_answer count made old
    unfolding counted_answer
    room-answer is = is ∙ rw (le-leb (length made) (length old) most)

-- the bytes that are left
module _ (made old : List ℕ) where
  module _ (less : length old < length made) where
    pub no-room-left : old ≡ text_after (has_room made old) made old
    unfolding text_after
    no-room-left = rw (lt-leb (length made) (length old) less)

  module _ (most : length made ≤ length old) where
    -- a writer writes the text in the bytes of g, which have it once the writer is gone
    pub room_after : {w v : Writer} {g : ℕ} {new : List ℕ} → w.out.ghost_name ≡ g → w.out.now ≡ old → w.at ≡ 0 → Adds w v made
        → (g ≡ v.out.ghost_name → new ≡ v.out.now)
        → new ≡ text_after (has_room made old) made old
    unfolding text_after
    room_after lent bytes start h back =
        let f = adds_front bytes start refl h most in
        back (sym (h.lent ∙ lent)) ∙ f.bytes ∙ rw (le-leb (length made) (length old) most, f.long)

-- what `hand_over_with` leaves in the state's array
module _ (made old l : List ℕ) where
  pub no-room-state : length old < length made → (numbers : List ℕ) → l ≡ cond (has_room made old) numbers l
  no-room-state less numbers = rw (lt-leb (length made) (length old) less)

  pub room-state : length made ≤ length old → {numbers new : List ℕ} → new ≡ numbers → new ≡ cond (has_room made old) numbers l
  room-state most e = rw (le-leb (length made) (length old) most) e

-- the number and the place for an array that is a state, and for one that is not
module _ (l : List ℕ) where
  module _ (long : length l ≡ places) (s : Head) (bs : List ℕ) where
    pub well-number : number_for l s bs ≡ translation_number s bs most_words most_words
    unfolding number_for well_formed
    well-number = rw (eq-eqb (length l) places long)

    pub well-place : place_for l s bs ≡ translation_place s bs
    unfolding place_for well_formed
    well-place = rw (eq-eqb (length l) places long)

  module _ {i : Bool} (is : i ≡ well_formed l) (bad : not i ≡ true) (s : Head) (bs : List ℕ) where
    pub ill-number : number_for l s bs ≡ 1
    unfolding number_for
    ill-number = rw (sym is ∙ not-true i bad)

    pub ill-place : place_for l s bs ≡ 0
    unfolding place_for
    ill-place = rw (sym is ∙ not-true i bad)

-- a text that is not refused, where n bytes of the array are handed over
module _ {m text : List ℕ} {n : ℕ} {made : List ℕ} (f : Front m text n made) where
  pub front-room : n ≤ length made
  front-room = f.counts.0

  pub front-count : n ≡ length (take n made)
  front-count = f.counts.1

  pub front-small : length text < 2 ^ 32 → length (take n made) < 2 ^ 32
  front-small h = rw (front-text f) h

  module _ {number : ℕ} (none : number ≡ 0) (old : List ℕ) where
    pub front-answer : (place : ℕ) {r : ℕ} → r ≡ room_answer (take n made) old → r ≡ text_answer number place text old
    unfolding text_answer
    front-answer place is = rw none (is ∙ rw (front-text f))

    pub front-after : {new : List ℕ} → new ≡ text_after (has_room (take n made) old) (take n made) old → new ≡ text_after (is_put number text old) text old
    unfolding is_put
    front-after is = rw none (rw (front-text f) at is)

    pub front-state : (numbers l : List ℕ) {new : List ℕ} → new ≡ cond (has_room (take n made) old) numbers l → new ≡ cond (is_put number text old) numbers l
    unfolding is_put
    front-state numbers l is = rw none (rw (front-text f) at is)

-- a plan that is refused
module _ (number : ℕ) (some : eqb number 0 ≡ false) (text old : List ℕ) where
  pub refused-answer : (place : ℕ) {r : ℕ} → r ≡ packed number 0 place → r ≡ text_answer number place text old
  unfolding text_answer
  refused-answer place is = rw some is

  pub refused-left : old ≡ text_after (is_put number text old) text old
  unfolding text_after is_put
  refused-left = rw some

  pub refused-state : (numbers l : List ℕ) → l ≡ cond (is_put number text old) numbers l
  unfolding is_put
  refused-state numbers l = rw some
