-- What is read from a text is a list: as many words as ticks, at most 256, and the ticks rise.
-- Assumes nothing.
use mathlib.Core.Path.{◌≡◌, refl, ap, ◌∙◌}
use mathlib.Core.Bool.{true}
use mathlib.Core.List.{List, ◌∷◌, map}
use Prim.Native.Nat.{ℕ, suc, ◌+◌, ◌≤◌}
use native.Mathlib.Omega.{arith}
use borrow.Author.Tests.{lt-ltb, le-leb, eq-eqb}
use lib.ListN.{length, take}
use Rattle.timed.specs.List.{rising, most_words, is_list}
use Rattle.import.specs.Line.{line_of}
use Rattle.import.specs.Read.{word_of, tick_of, word_lines_in, import_of, import_count, words_in, ticks_in}
use Rattle.import.specs.declared.line.Line.{Line}
use Rattle.import.specs.declared.line.Line.TheVariants.{Word}
use Rattle.import.proofs.Whole.{import-few}
use Rattle.import.proofs.Body.{Listed, none, last, word, accepted}
use Rattle.std.specs.Prelude.{Option, Some, Ok}

listed-long : (f : Option Line → ℕ) {n least : ℕ} {ls : List (List ℕ)} → Listed n least ls → length (map f (map line_of (take n ls))) ≡ n
listed-long f none = refl
listed-long f (last is h) = refl
listed-long f (word is h r) = ap suc (listed-long f r)

-- the ticks of lines of which the first is a word's
word-ticks : (n : ℕ) {t w : ℕ} (l : List ℕ) (ls : List (List ℕ)) → line_of l ≡ Some (Word t w)
    → map tick_of (map line_of (take (suc n) (l ∷ ls))) ≡ t ∷ map tick_of (map line_of (take n ls))
word-ticks n l ls is = ap (λ (k : Option Line). tick_of k ∷ map tick_of (map line_of (take n ls))) is

rises-after : (t : ℕ) {n least : ℕ} {ls : List (List ℕ)} → Listed n least ls → least ≡ t + 1 → rising (t ∷ map tick_of (map line_of (take n ls))) ≡ true
unfolding rising
rises-after t none e = refl
rises-after t (last is h) e = refl
rises-after t (word {l = l} {ls = ls} {t = u} is h r) e =
    ap (λ (x : List ℕ). rising (t ∷ x)) (word-ticks _ l ls is) ∙ rw (lt-ltb t u (omega arith)) (rises-after u r refl)

rises : {n least : ℕ} {ls : List (List ℕ)} → Listed n least ls → rising (map tick_of (map line_of (take n ls))) ≡ true
unfolding rising
rises none = refl
rises (last is h) = refl
rises (word {l = l} {ls = ls} {t = t} is h r) = ap rising (word-ticks _ l ls is) ∙ rises-after t r refl

module _ (text : List ℕ) {n : ℕ} (e : import_of text ≡ Ok n) where
  numbers : (f : Option Line → ℕ) → map f (word_lines_in (import_count (import_of text)) text) ≡ map f (map line_of (take n (accepted text e).rest))
  unfolding word_lines_in
  numbers f = rw (e, (accepted text e).are)

  pub words-read : words_in text ≡ map word_of (map line_of (take n (accepted text e).rest))
  unfolding words_in
  words-read = numbers word_of

  pub ticks-read : ticks_in text ≡ map tick_of (map line_of (take n (accepted text e).rest))
  unfolding ticks_in
  ticks-read = numbers tick_of

  pub import-words : length (words_in text) ≡ n
  import-words = ap length words-read ∙ listed-long word_of (accepted text e).listed

  pub import-ticks : length (ticks_in text) ≡ n
  import-ticks = ap length ticks-read ∙ listed-long tick_of (accepted text e).listed

  -- a list, with the number of words that the answer says
  pub import-list : (is_list (words_in text) (ticks_in text) ≡ true) × ((length (words_in text) ≡ n) × (n ≤ most_words))
  unfolding is_list
  import-list =
      let few = import-few text e in
      let order : rising (ticks_in text) ≡ true = rw ticks-read (rises (accepted text e).listed) in
      (rw (import-words, import-ticks, eq-eqb n n refl, le-leb n most_words few, order), (import-words, few))
