-- The ways through the exported merge of two texts: old is the caller's array.
-- Assumes nothing.
use mathlib.Core.Path.{◌≡◌, refl}
use mathlib.Core.List.{List}
use Prim.Native.Nat.{ℕ, ◌≤◌, ◌<◌, ◌^◌}
use native.Mathlib.Omega.{arith}
use lib.ListN.{length, take}
use Rattle.layout.specs.Written.{Front}
use Rattle.interface.specs.Plans.{packed}
use Rattle.merged.specs.Text.{merged_text, merged_texts_of, text_after as merged_after}
use Rattle.std.specs.Prelude.{Ok, Err}
use Rattle.import.specs.Read.{import_error_number, import_error_line}
use Rattle.import.specs.declared.reasons.ImportError.{ImportError}
use Rattle.merged.specs.declared.printed.MergeTextsError.{MergeTextsError}
use Rattle.merged.specs.declared.printed.MergeTextsError.TheVariants.{Unread, SameTick}
use Rattle.merged.proofs.Answers.{merged-front, merged-small, unread-list, unread-line}
use Rattle.texts.specs.Texts.{has_room, text_after, room_answer}
use Rattle.texts.specs.Operators.{merge_answer_by, merge_texts_answer, merge_left_by, merge_texts_left}
use Rattle.texts.proofs.Handed.{front-room, front-count, front-small}
use Rattle.texts.proofs.Wording.{handed-answer, handed-left}

-- two texts merged: m is the array in which the text is made
module _ (x y : List ℕ) where
  module _ {n : ℕ} (is : Ok n ≡ merged_texts_of x y) (m : List ℕ) {made : List ℕ} (after : made ≡ merged_after (Ok n) (merged_text x y) m) where
    front : Front m (merged_text x y) n made
    front = merged-front x y is refl m after

    pub made-room : n ≤ length made
    made-room = front-room front

    pub made-count : n ≡ length (take n made)
    made-count = front-count front

    pub made-small : length (take n made) < 2 ^ 32
    made-small = front-small front (omega (arith, merged-small x y is refl))

    module _ (old : List ℕ) where
      pub made-answer : {v : ℕ} → v ≡ room_answer (take n made) old → v ≡ merge_texts_answer x y old
      unfolding merge_texts_answer merge_answer_by
      made-answer e = rw (← is) (handed-answer (merged_text x y) front old e)

      pub made-left : {new : List ℕ} → new ≡ text_after (has_room (take n made) old) (take n made) old → new ≡ merge_texts_left x y old
      unfolding merge_texts_left merge_left_by
      made-left e = rw (← is) (handed-left (merged_text x y) front old e)

  module _ {g : ℕ} {e : ImportError} (unread : Err (Unread g e) ≡ merged_texts_of x y) where
    pub list-small : g < 2 ^ 16
    list-small = omega (arith, unread-list x y unread refl)

    pub line_small : {l : ℕ} → l ≡ import_error_line e → l < 2 ^ 32
    line_small is = omega (arith, unread-line x y unread refl)

    pub unread-answer : (old : List ℕ) {n : ℕ} → n ≡ import_error_number e → {l : ℕ} → l ≡ import_error_line e → {v : ℕ} → v ≡ packed n g l
        → v ≡ merge_texts_answer x y old
    unfolding merge_texts_answer merge_answer_by
    unread-answer old number line is = rw (← unread) (rw (number, line) at is)

  module _ {e : MergeTextsError} (refused : Err e ≡ merged_texts_of x y) where
    pub unread-left : (old : List ℕ) → old ≡ merge_texts_left x y old
    unfolding merge_texts_left merge_left_by
    unread-left old = rw (← refused)

  module _ (same : Err SameTick ≡ merged_texts_of x y) (old : List ℕ) where
    pub same_answer : {v : ℕ} → v ≡ packed 53 0 0 → v ≡ merge_texts_answer x y old
    unfolding merge_texts_answer merge_answer_by
    same_answer is = rw (← same) is
