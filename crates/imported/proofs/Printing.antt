-- The ways through `printed`, by the answer of `read_list`.
-- Assumes nothing.
use mathlib.Core.Path.{◌≡◌, sym, ap, ◌∙◌}
use mathlib.Core.Bool.{true}
use mathlib.Core.List.{List, [], ◌∷◌, map}
use Prim.Native.Nat.{ℕ, ◌≤◌, min}
use native.Mathlib.Omega.{arith}
use lib.ListN.{length, take, length-map}
use lib.Seq.{length-take-le}
use Rattle.timed.specs.List.{is_list}
use Rattle.layout.specs.Numbers.{ascii}
use Rattle.layout.specs.Written.{Written, Front}
use Rattle.layout.proofs.Writing.{written-front}
use Rattle.layout.proofs.Widths.{layout-few}
use Rattle.import.specs.Read.{reason_number, import_of, import_into, import_count, word_of, tick_of, word_lines_in, words_in, ticks_in, import_after}
use Rattle.import.specs.declared.line.Line.{Line}
use Rattle.std.specs.Prelude.{Option, Result, Ok, Err}
use Rattle.import.specs.declared.reasons.Reason.{Reason}
use Rattle.import.specs.declared.reasons.ImportError.{ImportError}
use Rattle.import.specs.declared.reasons.ImportError.TheVariants.{Refused, Short}
use Rattle.import.proofs.Places.{import-not-short}
use Rattle.import.proofs.Rooms.{front_read, room-enough}
use Rattle.import.proofs.Lists.{import-words, import-list}
use Rattle.inspection.specs.Inspection.{inspection, inspection_text, counts_of, inspected_of, inspection_after}
use Rattle.inspection.specs.declared.counts.Counts.{Counts}
use Rattle.inspection.specs.declared.inspection.Inspection.{Inspection}
use Rattle.inspection.specs.declared.inspection.InspectError.{InspectError}
use Rattle.inspection.proofs.Fitting.{inspection-fits}
use Rattle.imported.specs.Printed.{refusal_template, reason_index, refusal_text, printed_by, printed_for}

-- the inspection of a list stands at the front
module _ (ws ts : List ℕ) (fits : is_list ws ts ≡ true) (old : List ℕ) where
  answered : inspected_of ws ts (length old) ≡ Ok (inspection (min (length (inspection_text ws ts)) (length old)) (counts_of ws ts))
  unfolding inspected_of
  answered = rw fits

  pub inspected-done : {i : Inspection} → Ok i ≡ inspected_of ws ts (length old) → length old ≡ 262144
      → {new : List ℕ} → new ≡ inspection_after (Ok i) (inspection_text ws ts) old → Front old (inspection_text ws ts) i.length new
  unfolding inspection_after
  inspected-done {i} done room after =
      let is : Ok i ≡ Ok (inspection (min (length (inspection_text ws ts)) (length old)) (counts_of ws ts)) = done ∙ answered in
      let same : i ≡ inspection (min (length (inspection_text ws ts)) (length old)) (counts_of ws ts) = cc in
      let place : i.length ≡ min (length (inspection_text ws ts)) (length old) = ap (λ (x : Inspection). x.length) same in
      written-front (record { place = omega arith; bytes = after }) (omega (arith, inspection-fits ws ts fits))

  pub inspected-never : {e : InspectError} → Err e ≡ inspected_of ws ts (length old) → {n : ℕ} {new : List ℕ} → Front old (inspection_text ws ts) n new
  inspected-never {e} done =
      let is : Err e ≡ Ok (inspection (min (length (inspection_text ws ts)) (length old)) (counts_of ws ts)) = done ∙ answered in
      absurd (cc)

pub refusal-few : (number line : ℕ) → length (refusal_text number line) ≤ 256
unfolding refusal_text refusal_template ascii
refusal-few number line = omega (arith, layout-few refusal_template (number ∷ reason_index number ∷ line ∷ []) [])

-- a list read into two buffers of 256 places
module _ (text W T : List ℕ) (room_w : length W ≡ 256) (room_t : length T ≡ 256) {a : Result ℕ ImportError} (into : a ≡ import_into text (length W) (length T)) where
  pub whole-answer : a ≡ import_of text
  unfolding import_into
  whole-answer = into ∙ rw (room_w, room_t) (room-enough (import_of text) (λ n e. (import-list text e).1.1))

  -- a number of each line of a word
  abbrev numbers : (Option Line → ℕ) → List ℕ
  numbers f = map f (word_lines_in (import_count (import_of text)) text)

  numbers-long : (f : Option Line → ℕ) {n : ℕ} → import_of text ≡ Ok n → length (numbers f) ≡ n
  unfolding words_in
  numbers-long f e =
      let read = word_lines_in (import_count (import_of text)) text in
      length-map read f ∙ sym (length-map read word_of) ∙ import-words text e

  whole-front : (f : Option Line → ℕ) (old : List ℕ) → length old ≡ 256 → take (import_count a) (import_after a (numbers f) old) ≡ numbers f
  unfolding word_lines_in
  whole-front f old room = go a whole-answer
    where
      go : (r : Result ℕ ImportError) → r ≡ import_of text → take (import_count r) (import_after r (numbers f) old) ≡ numbers f
      go (Ok n) e = front_read (numbers f) old n (numbers-long f (sym e)) (omega (arith, (import-list text (sym e)).1.1))
      go (Err (Refused r l)) e = rw (← e)
      go (Err (Short n)) e = absurd (import-not-short text (sym e))

  pub whole_words : {W' : List ℕ} → W' ≡ import_after a (words_in text) W → take (import_count a) W' ≡ words_in text
  unfolding words_in
  whole_words is = ap (take (import_count a)) is ∙ whole-front word_of W room_w

  pub whole-ticks : {T' : List ℕ} → T' ≡ import_after a (ticks_in text) T → take (import_count a) T' ≡ ticks_in text
  unfolding ticks_in
  whole-ticks is = ap (take (import_count a)) is ∙ whole-front tick_of T room_t

-- the ways through `printed_over`
module _ (text : List ℕ) where
  module _ {n : ℕ} (done : Ok n ≡ import_of text) where
    pub count_room : {room : ℕ} → room ≡ 256 → n ≤ room
    count_room is = omega (arith, is, (import-list text (sym done)).1.1)

    module _ (W T : List ℕ) (words : take n W ≡ words_in text) (ticks : take n T ≡ ticks_in text) where
      pub read-list : is_list (take n W) (take n T) ≡ true
      read-list = rw (words, ticks) (import-list text (sym done)).0

      pub printed-done : {old : List ℕ} {k : ℕ} {new : List ℕ} → Front old (inspection_text (take n W) (take n T)) k new → Front old (printed_for text) k new
      unfolding printed_for printed_by
      printed-done f = rw (← done, ← words, ← ticks) f

  pub printed-refused : {r : Reason} {line : ℕ} → Err (Refused r line) ≡ import_of text → {number : ℕ} → number ≡ reason_number r
      → {old : List ℕ} → length old ≡ 262144 → {k : ℕ} {new : List ℕ} → Written old 0 (refusal_text number line) k new → Front old (printed_for text) k new
  unfolding printed_for printed_by
  printed-refused {r} {line} refusal is room w =
      rw (← refusal) (written-front (rw is at w) (omega (arith, refusal-few (reason_number r) line)))

  pub printed-short : {n : ℕ} → Err (Short n) ≡ import_of text → {old : List ℕ} {k : ℕ} → Front old (printed_for text) k old
  printed-short short = absurd (import-not-short text (sym short))

-- so many first places
pub first-long : (l : List ℕ) (n : ℕ) → n ≤ length l → n ≡ length (take n l)
first-long l n h = sym (length-take-le n l h)
