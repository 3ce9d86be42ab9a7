-- The entries of a text that is a list: their number and their ticks are the list's, the ticks rise, and each has a line of at most 16 bytes.
-- Assumes nothing.
use mathlib.Core.Path.{◌≡◌, refl, sym, ap, ◌∙◌}
use mathlib.Core.Bool.{Bool, true, false, cond, not, ◌&&◌}
use mathlib.Core.List.{List, [], ◌∷◌, map}
use Prim.Native.Nat.{ℕ, suc, ◌+◌, ◌*◌, ◌≤◌, ◌<◌}
use native.Mathlib.Omega.{arith}
use borrow.Author.Tests.{ltb-true, eqb-false}
use lib.Dec.{eqb, leb, ltb}
use lib.ListN.{length, take, drop, length-append, length-map}
use Rattle.words.proofs.Tests.{and_left, and_right}
use Rattle.timed.specs.List.{rising, most_words, is_list}
use Rattle.text.specs.Lines.{timed_text}
use Rattle.import.specs.Line.{is_text, tick_limit, word_limit, tick_in, word_in, end_in, reads_timed, reads_end, line_of}
use Rattle.import.specs.Read.{most_bytes, lines, read_of, answer_by, import_of, import_number, import_count, word_of, tick_of, word_lines_in, words_in, ticks_in}
use Rattle.import.specs.declared.line.Line.TheVariants.{Word, End}
use Rattle.std.specs.Prelude.{Some, None, Ok}
use Rattle.import.proofs.Lists.{import-words, import-list}
use Rattle.merge.specs.Merge.{tick_in as entry_tick, word_in as entry_word, ticks_in as entry_ticks}
use Rattle.merge.proofs.Entries.{entry-tick}
use Rattle.merged.specs.Text.{entries, entries_in, entry_lines}
use Rattle.merged.proofs.LineByLine.{line-few}

-- a line's tick and word are within their limits
within : (l : List ℕ) → (tick_of (line_of l) < tick_limit) × (word_of (line_of l) < word_limit)
unfolding line_of reads_timed
within l = go (reads_timed l (tick_in l) (word_in l)) refl (reads_end l (end_in l))
  where
    go : (z : Bool) → reads_timed l (tick_in l) (word_in l) ≡ z → (e : Bool)
        → let k = cond z (Some (Word (tick_in l) (word_in l))) (cond e (Some (End (end_in l))) None) in (tick_of k < tick_limit) × (word_of k < word_limit)
    go true p e =
        let a = ltb (tick_in l) tick_limit in
        let b = ltb (word_in l) word_limit in
        let both = and_left (a && b) (is_text l (timed_text (tick_in l) (word_in l))) p in
        (ltb-true (tick_in l) tick_limit (and_left a b both), ltb-true (word_in l) word_limit (and_right a b both))
    go false p true = (omega arith, omega arith)
    go false p false = (omega arith, omega arith)

-- the entries of lines
abbrev line_entries : List (List ℕ) → List ℕ
line_entries ls = entries (map tick_of (map line_of ls)) (map word_of (map line_of ls))

line-ticks : (ls : List (List ℕ)) → entry_ticks (line_entries ls) ≡ map tick_of (map line_of ls)
unfolding entries entry_ticks
line-ticks [] = refl
line-ticks (l ∷ ls) = rw (entry-tick (tick_of (line_of l)) (word_of (line_of l)) (within l).1, line-ticks ls)

lines-counted : (ls : List (List ℕ)) → length (line_entries ls) ≡ length ls
unfolding entries
lines-counted [] = refl
lines-counted (l ∷ ls) = ap suc (lines-counted ls)

lines-short : (ls : List (List ℕ)) → length (entry_lines (line_entries ls)) ≤ 16 * length ls
unfolding entries entry_lines
lines-short [] = omega arith
lines-short (l ∷ ls) =
    let e = tick_of (line_of l) * 65536 + word_of (line_of l) in
    let small = within l in
    let line = line-few (entry_tick e) (entry_word e) (omega arith) in
    let rest = lines-short ls in
    simp length-append (omega arith)

-- every tick is within its limit
pub data Small : List ℕ → Type 0 where
  all_small : Small []
  one-small : (e : ℕ) {es : List ℕ} → entry_tick e < tick_limit → Small es → Small (e ∷ es)

lines-small : (ls : List (List ℕ)) → Small (line_entries ls)
unfolding entries
lines-small [] = all_small
lines-small (l ∷ ls) =
    let small = within l in one-small (tick_of (line_of l) * 65536 + word_of (line_of l)) (omega arith) (lines-small ls)

-- a text that is a list of n words
module _ (text : List ℕ) {n : ℕ} (done : import_of text ≡ Ok n) where
  abbrev lines_read : List (List ℕ)
  lines_read = take (import_count (import_of text)) (drop 1 (lines text))

  as-lines : entries_in text ≡ line_entries lines_read
  unfolding entries_in words_in ticks_in word_lines_in
  as-lines = refl

  counted : length lines_read ≡ n
  unfolding words_in word_lines_in
  counted = sym (length-map (map line_of lines_read) word_of ∙ length-map lines_read line_of) ∙ import-words text done

  pub entries-count : length (entries_in text) ≡ n
  entries-count = ap length as-lines ∙ lines-counted lines_read ∙ counted

  pub read-few : n ≤ most_words
  read-few = (import-list text done).1.1

  pub entries-rise : rising (entry_ticks (entries_in text)) ≡ true
  unfolding is_list ticks_in word_lines_in
  entries-rise =
      let ws = words_in text in
      let ts = ticks_in text in
      let order : rising ts ≡ true = and_right (eqb (length ws) (length ts) && leb (length ws) most_words) (rising ts) (import-list text done).0 in
      rw (as-lines, line-ticks lines_read) order

  pub entries-short : length (entry_lines (entries_in text)) ≤ 16 * n
  entries-short = rw as-lines (omega (arith, lines-short lines_read, counted))

  pub entries-small : Small (entries_in text)
  entries-small = rw as-lines (lines-small lines_read)
