-- The ways through `put_listing` and the exported listing: s is the head, bs the plan, old the caller's array.
-- Assumes nothing.
use mathlib.Core.Path.{◌≡◌, refl, sym, ◌∙◌}
use mathlib.Core.Bool.{Bool, true, false, not}
use mathlib.Core.List.{List}
use Prim.Native.Nat.{ℕ, ◌≤◌, ◌<◌, ◌^◌}
use native.Mathlib.Omega.{arith}
use lib.Dec.{eqb}
use lib.ListN.{length, take}
use mir.Syntax.{w8}
use mir.Val.{Fits}
use Rattle.head.specs.Row.{places, state_of}
use Rattle.head.specs.declared.state.Head.{Head}
use Rattle.plan.specs.Stored.{byte_at}
use Rattle.std.specs.Prelude.{Result, Ok, Err}
use Rattle.schedule.specs.Translate.{most_words, translate_of, translation_number, translation_place, translate_error_number, translate_error_place}
use Rattle.schedule.specs.declared.Translation.{Translation}
use Rattle.schedule.specs.declared.TranslateError.{TranslateError}
use Rattle.schedule.proofs.Numbered.{translation-number}
use Rattle.layout.specs.Written.{Front}
use Rattle.text.specs.Listing.{plan_text, listed_by, listed_of, listed_after}
use Rattle.text.proofs.Fitting.{listing-fits}
use Rattle.text.proofs.Printed.{listed-front}
use Rattle.interface.specs.State.{well_formed}
use Rattle.interface.specs.Plans.{packed}
use Rattle.texts.specs.Texts.{has_room, text_after, room_answer, text_answer, is_put, number_for, place_for, listing_answer, listing_left}
use Rattle.texts.proofs.Refused.{some-number, translation-small, translate-fit}
use Rattle.texts.proofs.Handed.{well-number, well-place, ill-number, ill-place, front-room, front-count, front-small, front-answer, front-after, refused-answer, refused-left}

-- what a listing that is done says: no refusal, and the text at the front of the array m
record Made (s : Head) (bs : List ℕ) (n : ℕ) (m made : List ℕ) : Type 0 where
  none : translation_number s bs most_words most_words ≡ 0
  small : length (plan_text s bs) < 2 ^ 32
  front : Front m (plan_text s bs) n made

module _ (s : Head) (bs : List ℕ) where
  module _ {n : ℕ} (is : Ok n ≡ listed_of s bs) (m : List ℕ) {made : List ℕ} (after : made ≡ listed_after s bs m) where
    made-is : Made s bs n m made
    unfolding listed_of listed_by
    made-is = go (translate_of s bs most_words most_words) refl is
      where
        go : (t : Result Translation TranslateError) → translate_of s bs most_words most_words ≡ t → Ok n ≡ listed_by t (length (plan_text s bs)) → Made s bs n m made
        go (Ok k) h same =
            record {
              none = sym (translation-number s bs most_words most_words) ∙ rw h;
              small = omega (arith, listing-fits s bs (translate-fit s bs h));
              front = rw after (listed-front s bs is m);
            }
        go (Err f) h same = absurd (cc)

    pub listed-room : n ≤ length made
    listed-room = front-room made-is.front

    pub listed-count : n ≡ length (take n made)
    listed-count = front-count made-is.front

    pub listed_small : length (take n made) < 2 ^ 32
    listed_small = front-small made-is.front made-is.small

    -- the array l holds the head
    module _ (l : List ℕ) (long : length l ≡ places) (loaded : s ≡ state_of l) (old : List ℕ) where
      none : number_for l s bs ≡ 0
      none = well-number l long s bs ∙ made-is.none

      pub listed_answer : {x : ℕ} → x ≡ room_answer (take n made) old → x ≡ listing_answer l bs old
      unfolding listing_answer
      listed_answer e = rw (← loaded) (front-answer made-is.front none old (place_for l s bs) e)

      pub listed-left : {new : List ℕ} → new ≡ text_after (has_room (take n made) old) (take n made) old → new ≡ listing_left l bs old
      unfolding listing_left
      listed-left e = rw (← loaded) (front-after made-is.front none old e)

  module _ (e : TranslateError) {n : ℕ} (number_made : n ≡ translate_error_number e) {p : ℕ} (place_made : p ≡ translate_error_place e) where
    pub unlisted-small : translate_error_place e ≡ translation_place s bs → ((k : ℕ) → Fits w8 (byte_at bs k)) → p < 2 ^ 32
    unlisted-small place bytes = rw (place_made, place) (translation-small s bs bytes)

    module _ (number : translate_error_number e ≡ translation_number s bs most_words most_words) (l : List ℕ) (long : length l ≡ places) (loaded : s ≡ state_of l) (old : List ℕ) where
      number_is : n ≡ number_for l s bs
      number_is = rw (well-number l long s bs, ← number, number_made)

      some : eqb (number_for l s bs) 0 ≡ false
      some = rw (← number_is, number_made) (some-number e)

      pub unlisted-left : old ≡ listing_left l bs old
      unfolding listing_left
      unlisted-left = rw (← loaded) (refused-left (number_for l s bs) some (plan_text s bs) old)

      pub unlisted-answer : translate_error_place e ≡ translation_place s bs → {x : ℕ} → x ≡ packed n 0 p → x ≡ listing_answer l bs old
      unfolding listing_answer
      unlisted-answer place is =
          let place_is : p ≡ place_for l s bs = rw (well-place l long s bs, ← place, place_made) in
          rw (← loaded) (refused-answer (number_for l s bs) some (plan_text s bs) old (place_for l s bs) (is ∙ rw (← number_is, ← place_is)))

-- an array that is no state: i is what `well_formed` answered
module _ (l bs old : List ℕ) {i : Bool} (is : i ≡ well_formed l) (bad : not i ≡ true) where
  pub listing-ill : 1 ≡ listing_answer l bs old
  unfolding listing_answer text_answer
  listing-ill = rw (ill-number l is bad (state_of l) bs, ill-place l is bad (state_of l) bs)

  pub listing-ill-left : old ≡ listing_left l bs old
  unfolding listing_left is_put text_after
  listing-ill-left = rw (ill-number l is bad (state_of l) bs)
