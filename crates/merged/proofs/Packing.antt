-- Ticks and words packed into entries, and the entries of a list that is read into arrays of 256 places.
-- Assumes nothing.
use mathlib.Core.Path.{◌≡◌, refl, sym, ap, ◌∙◌}
use mathlib.Core.List.{List, [], ◌∷◌, ◌++◌, append-nil}
use Prim.Native.Nat.{ℕ, zero, suc, ◌+◌, ◌*◌, ◌≤◌, ◌<◌}
use native.Mathlib.Numerals.{add-one}
use native.Mathlib.Omega.{arith}
use lib.ListN.{length, get_or, take, drop, set, length-set, drop_of_length-le}
use lib.Seq.{drop-cons, take-suc-set, append_snoc, take_all}
use Rattle.import.specs.Read.{import_of, import_into, import_count, word_lines_in, words_in, ticks_in, import_after}
use Rattle.std.specs.Prelude.{Result, Ok, Err}
use Rattle.import.specs.declared.reasons.ImportError.{ImportError}
use Rattle.import.specs.declared.reasons.ImportError.TheVariants.{Refused, Short}
use Rattle.import.proofs.Places.{import-not-short}
use Rattle.import.proofs.Rooms.{front_read, room-enough}
use Rattle.import.proofs.Lists.{import-words, import-ticks, import-list}
use Rattle.merged.specs.Text.{entries, entries_in}

-- the first i entries are packed
pub record Packing (ts ws new : List ℕ) (i : ℕ) : Type 0 where
  pub words : length ws ≡ length ts
  pub long : length new ≡ length ts
  pub left : entries ts ws ≡ take i new ++ entries (drop i ts) (drop i ws)

module _ {ts ws new : List ℕ} where
  pub packing-first : length ws ≡ length ts → length new ≡ length ts → Packing ts ws new 0
  packing-first same long = record { words = same; long = long; left = refl }

  module _ {i : ℕ} (h : Packing ts ws new i) where
    module _ (more : i < length ts) where
      here : entries (drop i ts) (drop i ws) ≡ (get_or ts i 0 * 65536 + get_or ws i 0) ∷ entries (drop (suc i) ts) (drop (suc i) ws)
      unfolding entries
      here =
          let there : i < length ws = let same = h.words in omega arith in
          rw (drop-cons ts i 0 more, drop-cons ws i 0 there)

      pub packing-next : {e : ℕ} → e ≡ get_or ts i 0 * 65536 + get_or ws i 0 → Packing ts ws (set new i e) (i + 1)
      packing-next {e} is =
          let same = h.long in
          let there : i < length new = omega arith in
          record {
            words = h.words;
            long = length-set new i e ∙ same;
            left =
                h.left
                ∙ rw (here, add-one i, take-suc-set new i e there, ← is)
                (sym (append_snoc (take i new) e (entries (drop (suc i) ts) (drop (suc i) ws))));
          }

    pub packed : length ts ≤ i → new ≡ entries ts ws
    unfolding entries
    packed all =
        let same = h.long in
        let whole : take i new ≡ new = take_all i new (omega arith) in
        sym (h.left ∙ rw (drop_of_length-le ts all, whole, append-nil new))

-- the first entries are those of the first ticks and words
entries-first : (n : ℕ) (ts ws : List ℕ) → take n (entries ts ws) ≡ entries (take n ts) (take n ws)
unfolding entries
entries-first zero ts ws = refl
entries-first (suc n) [] ws = refl
entries-first (suc n) (t ∷ ts) [] = refl
entries-first (suc n) (t ∷ ts) (w ∷ ws) = ap (λ (l : List ℕ). (t * 65536 + w) ∷ l) (entries-first n ts ws)

module _ (text : List ℕ) {a : Result ℕ ImportError} (into : a ≡ import_into text 256 256) where
  pub read_answer : a ≡ import_of text
  unfolding import_into
  read_answer = into ∙ room-enough (import_of text) (λ n e. (import-list text e).1.1)

  pub read-entries : (W : List ℕ) {W' : List ℕ} → W' ≡ import_after a (words_in text) W → length W ≡ 256
      → (T : List ℕ) {T' : List ℕ} → T' ≡ import_after a (ticks_in text) T → length T ≡ 256
      → {list : List ℕ} → list ≡ entries T' W' → take (import_count a) list ≡ entries_in text
  unfolding entries_in words_in ticks_in word_lines_in entries
  read-entries W {W'} words room_w T {T'} ticks room_t {list} is = go a read_answer words ticks
    where
      go : (r : Result ℕ ImportError) → r ≡ import_of text → W' ≡ import_after r (words_in text) W → T' ≡ import_after r (ticks_in text) T
          → take (import_count r) list ≡ entries_in text
      go (Ok n) e w t =
          let few : n ≤ 256 = (import-list text (sym e)).1.1 in
          ap (take n) is
          ∙ entries-first n T' W'
          ∙ rw (w, t, front_read (words_in text) W n (import-words text (sym e)) (omega arith), front_read (ticks_in text) T n (import-ticks text (sym e)) (omega arith))
      go (Err (Refused r l)) e w t = rw (← e)
      go (Err (Short n)) e w t = absurd (import-not-short text (sym e))
