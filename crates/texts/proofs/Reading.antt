-- The ways through the exported reading of a list, its inspection, and a refusal of a text in words.
-- Assumes nothing.
use mathlib.Core.Path.{◌≡◌, refl, sym, ap, ◌∙◌}
use mathlib.Core.Bool.{Bool, true, false, cond, not, ◌&&◌}
use mathlib.Core.List.{List}
use Prim.Native.Nat.{ℕ, ◌≤◌, ◌<◌, ◌^◌, min}
use native.Mathlib.Omega.{arith}
use borrow.Author.Tests.{not-true, not-false}
use lib.Dec.{leb}
use lib.ListN.{length, take}
use Rattle.timed.specs.List.{is_list}
use Rattle.layout.specs.Written.{Written, Front}
use Rattle.layout.proofs.Writing.{written-front, front-text}
use Rattle.interface.specs.Plans.{packed}
use Rattle.import.specs.Read.{import_of, with_room, import_into, import_number, import_after, words_in, ticks_in}
use Rattle.std.specs.Prelude.{Result, Ok, Err}
use Rattle.import.specs.declared.reasons.ImportError.{ImportError}
use Rattle.import.specs.declared.reasons.ImportError.TheVariants.{Refused, Short}
use Rattle.import.proofs.Lists.{import-list}
use Rattle.import.proofs.Places.{import-place, import-not-short}
use Rattle.inspection.specs.Counts.{findings}
use Rattle.inspection.specs.Inspection.{counts_of, inspection, inspection_text, inspected_of, inspection_after, inspect_error_number, inspected_number}
use Rattle.inspection.specs.declared.inspection.Inspection.{Inspection}
use Rattle.inspection.specs.declared.inspection.InspectError.{InspectError}
use Rattle.inspection.specs.declared.inspection.InspectError.TheVariants.{NoList}
use Rattle.inspection.proofs.Counting.{findings-few}
use Rattle.inspection.proofs.Fitting.{inspection-fits}
use Rattle.imported.specs.Printed.{refusal_text}
use Rattle.imported.proofs.Printing.{inspected-done, refusal-few}
use Rattle.texts.specs.Texts.{has_room, text_after, counted_answer}
use Rattle.texts.specs.Lists.{read_place, read_answer, words_left, ticks_left, inspection_answer, inspection_left, is_list_refusal, list_refusal_length, list_refusal_left}
use Rattle.texts.proofs.Wording.{handed-length, handed-left}

-- the place of an answer is small
room-place : (text : List ℕ) (a b : ℕ) (r : Result ℕ ImportError) → import_of text ≡ r → read_place (with_room r a b) < 2 ^ 32
unfolding with_room read_place
room-place text a b (Ok n) e = go (leb n a && leb n b)
  where
    go : (z : Bool) → read_place (cond z (Ok n) (Err (Short n))) < 2 ^ 32
    go true = omega (arith, (import-list text e).1.1)
    go false = omega (arith, (import-list text e).1.1)
room-place text a b (Err (Refused r l)) e = omega (arith, import-place text e)
room-place text a b (Err (Short n)) e = absurd (import-not-short text e)

module _ (text ws ts : List ℕ) {r : Result ℕ ImportError} (is : r ≡ import_into text (length ws) (length ts)) where
  pub read_small : read_place r < 2 ^ 32
  unfolding import_into
  read_small = rw is (room-place text (length ws) (length ts) (import_of text) refl)

  pub read_answer_lem : {x : ℕ} → x ≡ packed (import_number r) 0 (read_place r) → x ≡ read_answer text (length ws) (length ts)
  unfolding read_answer
  read_answer_lem e = rw is at e

  pub words_left_lem : {new : List ℕ} → new ≡ import_after r (words_in text) ws → new ≡ words_left text ws ts
  unfolding words_left
  words_left_lem e = rw is at e

  pub ticks-left : {new : List ℕ} → new ≡ import_after r (ticks_in text) ts → new ≡ ticks_left text ws ts
  unfolding ticks_left
  ticks-left e = rw is at e

-- an inspection: m is the array in which it is made
module _ (ws ts m : List ℕ) where
  module _ {i : Inspection} (answer : Ok i ≡ inspected_of ws ts (length m)) (whole : length m ≡ 262144)
      {made : List ℕ} (after : made ≡ inspection_after (Ok i) (inspection_text ws ts) m) where
    fits : is_list ws ts ≡ true
    unfolding inspected_of
    fits = go (is_list ws ts) refl answer
      where
        go : (z : Bool) → is_list ws ts ≡ z
            → Ok i ≡ cond z (Ok (inspection (min (length (inspection_text ws ts)) (length m)) (counts_of ws ts))) (Err NoList) → is_list ws ts ≡ true
        go true e is = e
        go false e is = absurd (cc)

    counts : i.counts ≡ counts_of ws ts
    unfolding inspected_of
    counts =
        let is : Ok i ≡ Ok (inspection (min (length (inspection_text ws ts)) (length m)) (counts_of ws ts)) = answer ∙ rw fits in
        let same : i ≡ inspection (min (length (inspection_text ws ts)) (length m)) (counts_of ws ts) = cc in
        ap (λ (x : Inspection). x.counts) same

    front : Front m (inspection_text ws ts) i.length made
    front = inspected-done ws ts fits m answer whole after

    pub inspected-room : i.length ≤ length made
    inspected-room = front.counts.0

    pub inspected-count : i.length ≡ length (take i.length made)
    inspected-count = front.counts.1

    pub inspected-small : length (take i.length made) < 2 ^ 32
    inspected-small = rw (front-text front) (omega (arith, inspection-fits ws ts fits))

    pub findings-small : {f : ℕ} → f ≡ findings i.counts → f < 2 ^ 16
    findings-small is = omega (arith, is, ap findings counts, findings-few ws ts fits)

    module _ (old : List ℕ) where
      pub inspected-answer : {f : ℕ} → f ≡ findings i.counts → {x : ℕ} → x ≡ counted_answer f (take i.length made) old → x ≡ inspection_answer ws ts old
      unfolding inspection_answer
      inspected-answer is e = rw fits (e ∙ rw (is, counts, front-text front))

      pub inspected-left : {new : List ℕ} → new ≡ text_after (has_room (take i.length made) old) (take i.length made) old → new ≡ inspection_left ws ts old
      unfolding inspection_left
      inspected-left e = rw fits (e ∙ rw (front-text front))

  module _ {f : InspectError} (refused : Err f ≡ inspected_of ws ts (length m)) (old : List ℕ) where
    no-list : is_list ws ts ≡ false
    unfolding inspected_of
    no-list = go (is_list ws ts) refl refused
      where
        go : (z : Bool) → is_list ws ts ≡ z
            → Err f ≡ cond z (Ok (inspection (min (length (inspection_text ws ts)) (length m)) (counts_of ws ts))) (Err NoList) → is_list ws ts ≡ false
        go true e is = absurd (cc)
        go false e is = e

    pub uninspected-answer : {n : ℕ} → n ≡ inspect_error_number f → {x : ℕ} → x ≡ packed n 0 0 → x ≡ inspection_answer ws ts old
    unfolding inspection_answer
    uninspected-answer is e = rw no-list (go f is e)
      where
        go : (g : InspectError) {n : ℕ} → n ≡ inspect_error_number g → {x : ℕ} → x ≡ packed n 0 0 → x ≡ packed (inspected_number (Err NoList)) 0 0
        go NoList is e = rw is at e

    pub uninspected-left : old ≡ inspection_left ws ts old
    unfolding inspection_left text_after
    uninspected-left = rw no-list

-- a refusal of a text in an array of 256 places
module _ (number line : ℕ) {m : List ℕ} {n : ℕ} {made : List ℕ} (w : Written m 0 (refusal_text number line) n made) (whole : length m ≡ 256) where
  list-wording : Front m (refusal_text number line) n made
  list-wording = written-front w (omega (arith, refusal-few number line))

  pub list-worded-count : n ≡ length (take n made)
  list-worded-count = list-wording.counts.1

  pub list-worded-few : length (take n made) < 2 ^ 32
  list-worded-few = rw (front-text list-wording) (omega (arith, refusal-few number line))

  module _ (old : List ℕ) where
    pub list-worded-length : {r : ℕ} → r ≡ cond (has_room (take n made) old) (length (take n made)) 0
        → r ≡ cond (has_room (refusal_text number line) old) (length (refusal_text number line)) 0
    list-worded-length = handed-length (refusal_text number line) list-wording old

    pub list-worded-left : {new : List ℕ} → new ≡ text_after (has_room (take n made) old) (take n made) old
        → new ≡ text_after (has_room (refusal_text number line) old) (refusal_text number line) old
    list-worded-left = handed-left (refusal_text number line) list-wording old

module _ (number line : ℕ) (old : List ℕ) where
  abbrev words : List ℕ
  words = refusal_text number line

  module _ (bad : not (leb 91 number && leb number 96) ≡ true) where
    unknown : is_list_refusal number ≡ false
    unfolding is_list_refusal
    unknown = not-true (leb 91 number && leb number 96) bad

    pub list-refusal-none : 0 ≡ list_refusal_length number line old
    unfolding list_refusal_length
    list-refusal-none = rw unknown

    pub list-refusal-kept : old ≡ list_refusal_left number line old
    unfolding list_refusal_left text_after
    list-refusal-kept = rw unknown

  module _ (good : not (leb 91 number && leb number 96) ≡ false) where
    known : is_list_refusal number ≡ true
    unfolding is_list_refusal
    known = not-false (leb 91 number && leb number 96) good

    pub list-refusal-length : {r : ℕ} → r ≡ cond (has_room words old) (length words) 0 → r ≡ list_refusal_length number line old
    unfolding list_refusal_length
    list-refusal-length e = rw known e

    pub list-refusal-left : {new : List ℕ} → new ≡ text_after (has_room words old) words old → new ≡ list_refusal_left number line old
    unfolding list_refusal_left
    list-refusal-left e = rw known e
