-- The text of a merge of at most 256 entries is a list again, and its entries are the merge.
-- Assumes nothing.
use mathlib.Core.Path.{◌≡◌, refl, ap, ◌∙◌}
use mathlib.Core.Bool.{true, false}
use mathlib.Core.List.{List, [], ◌∷◌, ◌++◌, map}
use Prim.Native.Nat.{ℕ, suc, ◌+◌, ◌*◌, ◌≤◌, ◌<◌}
use native.Mathlib.Omega.{arith}
use borrow.Author.Tests.{ltb-true, le-ltb, lt-leb, ne_eqb}
use lib.Dec.{ltb}
use lib.ListN.{length, length-append}
use lib.Seq.{append_snoc, take_all}
use Rattle.words.proofs.Tests.{and_left, and_right}
use Rattle.timed.specs.List.{rising, most_words}
use Rattle.layout.specs.Numbers.{ascii}
use Rattle.text.specs.Lines.{head_text, head_line, timed_text, word_line}
use Rattle.import.specs.Line.{tick_limit, line_of}
use Rattle.import.specs.Read.{most_bytes, lines, begin, judged, judged_all, by_line, read_of, answer_by, import_of, word_of, tick_of, word_lines_in, words_in, ticks_in}
use Rattle.import.specs.declared.line.Line.TheVariants.{Word}
use Rattle.std.specs.Prelude.{Some, None, Ok}
use Rattle.import.proofs.Printed.{same_text, timed-line, plain-head, plain-timed, lines-line}
use Rattle.merge.specs.Merge.{tick_in, word_in, ticks_in as entry_ticks, merge, share_tick}
use Rattle.merge.specs.Interleaved.{Interleaved, nothing, from-ccd, from-infrared}
use Rattle.merge.proofs.Interleaving.{merge-interleaved}
use Rattle.merge.proofs.Sorted.{merge-rises}
use Rattle.merged.specs.Text.{entries, entries_in, entry_lines, merge_text, merged_text}
use Rattle.merged.proofs.EntriesRead.{Small, all_small, one-small, entries-count, entries-rise, entries-short, entries-small}
use Rattle.merged.proofs.Merges.{interleaved-count, merge-lines}

-- entries from a tick on that rise and are within the limit
data Ready : ℕ → List ℕ → Type 0 where
  over : {t : ℕ} → Ready t []
  more : (t e : ℕ) {es : List ℕ} → t ≤ tick_in e → tick_in e < tick_limit → Ready (tick_in e + 1) es → Ready t (e ∷ es)

ready-after : (t : ℕ) {es : List ℕ} → Small es → rising (t ∷ entry_ticks es) ≡ true → Ready (t + 1) es
unfolding rising entry_ticks
ready-after t all_small r = over
ready-after t (one-small e {es = es} h rest) r =
    let first = ltb t (tick_in e) in
    let others = rising (tick_in e ∷ entry_ticks es) in
    more (t + 1) e (omega (arith, ltb-true t (tick_in e) (and_left first others r))) h (ready-after (tick_in e) rest (and_right first others r))

ready : {es : List ℕ} → Small es → rising (entry_ticks es) ≡ true → Ready 0 es
unfolding rising entry_ticks
ready all_small r = over
ready (one-small e h rest) r = more 0 e (omega arith) h (ready-after (tick_in e) rest r)

-- the lines of entries
line_texts : List ℕ → List (List ℕ)
line_texts [] = []
line_texts (e ∷ es) = timed_text (tick_in e) (word_in e) ∷ line_texts es

texts-long : (es : List ℕ) → length (line_texts es) ≡ length es
unfolding line_texts
texts-long [] = refl
texts-long (e ∷ es) = ap suc (texts-long es)

lines-entries : (es : List ℕ) → lines (entry_lines es) ≡ line_texts es
unfolding entry_lines word_line ascii line_texts lines
lines-entries [] = refl
lines-entries (e ∷ es) =
    ap lines (append_snoc (timed_text (tick_in e) (word_in e)) 10 (entry_lines es))
    ∙ lines-line (timed_text (tick_in e) (word_in e)) (plain-timed (tick_in e) (word_in e)) (entry_lines es)
    ∙ rw (lines-entries es)

lines-text : (es : List ℕ) → lines (head_line ++ entry_lines es) ≡ head_text ∷ line_texts es
unfolding head_line ascii
lines-text es =
    ap lines (append_snoc head_text 10 (entry_lines es)) ∙ lines-line head_text plain-head (entry_lines es) ∙ rw (lines-entries es)

-- each is read as its entry
entry-line : (e : ℕ) → tick_in e < tick_limit → line_of (timed_text (tick_in e) (word_in e)) ≡ Some (Word (tick_in e) (word_in e))
entry-line e h = timed-line (tick_in e) (word_in e) h (omega arith)

texts-back : {t : ℕ} {es : List ℕ} → Ready t es → entries (map tick_of (map line_of (line_texts es))) (map word_of (map line_of (line_texts es))) ≡ es
unfolding line_texts entries
texts-back over = refl
texts-back (more t e h small rest) =
    let whole : tick_in e * 65536 + word_in e ≡ e = omega arith in
    rw (entry-line e small, whole, texts-back rest)

-- each is taken
one-judged : (line count least e : ℕ) → (line ≡ 0 → ⊥) → least ≤ tick_in e → tick_in e < tick_limit → count < most_words
    → judged (record { refused = None; line = line; count = count; least = least; ended = false }) (timed_text (tick_in e) (word_in e))
    ≡ record { refused = None; line = line + 1; count = count + 1; least = tick_in e + 1; ended = false }
unfolding judged by_line
one-judged line count least e some h small few =
    rw (ne_eqb line 0 some, entry-line e small, le-ltb (tick_in e) least h, lt-leb most_words count few)

all-judged : (line count : ℕ) {least : ℕ} {es : List ℕ} → (line ≡ 0 → ⊥) → Ready least es → count + length es ≤ most_words
    → answer_by (judged_all (record { refused = None; line = line; count = count; least = least; ended = false }) (line_texts es)) ≡ Ok (count + length es)
unfolding judged_all answer_by line_texts
all-judged line count some over few = let n : count ≡ count + 0 = omega arith in rw (ne_eqb line 0 some) (ap Ok n)
all-judged line count some (more least e {es = es} h small rest) few =
    let n : count + 1 + length es ≡ count + suc (length es) = omega arith in
    ap (λ q. answer_by (judged_all q (line_texts es))) (one-judged line count least e some h small (omega arith))
    ∙ all-judged (line + 1) (count + 1) (λ (z : _). omega arith) rest (omega arith)
    ∙ ap Ok n

head-judged : judged begin head_text ≡ record { refused = None; line = 1; count = 0; least = 0; ended = false }
unfolding judged
head-judged = rw (same_text head_text)

-- a text of entries is a list, and these are its entries
module _ {es : List ℕ} (h : Ready 0 es) (few : length es ≤ most_words) (short : length (head_line ++ entry_lines es) ≤ most_bytes) where
  text-read : import_of (head_line ++ entry_lines es) ≡ Ok (length es)
  unfolding import_of read_of judged_all
  text-read =
      let n : 0 + length es ≡ length es = omega arith in
      rw (le-ltb most_bytes (length (head_line ++ entry_lines es)) short, lines-text es)
      (ap (λ q. answer_by (judged_all q (line_texts es))) head-judged
      ∙ all-judged 1 0 (λ (z : _). omega arith) h (omega arith)
      ∙ ap Ok n)

  text-entries : entries_in (head_line ++ entry_lines es) ≡ es
  unfolding entries_in ticks_in words_in word_lines_in
  text-entries =
      rw (text-read, lines-text es, take_all (length es) (line_texts es) (omega (arith, texts-long es))) (texts-back h)

small-interleaved : {xs ys zs : List ℕ} → Interleaved xs ys zs → Small xs → Small ys → Small zs
small-interleaved nothing a b = all_small
small-interleaved (from-ccd x h) (one-small e small a) b = one-small e small (small-interleaved h a b)
small-interleaved (from-infrared y h) a (one-small e small b) = one-small e small (small-interleaved h a b)

-- two texts that are lists, with no tick in common and at most 256 words in all
module _ (x y : List ℕ) {n m : ℕ} (first : import_of x ≡ Ok n) (second : import_of y ≡ Ok m) (apart : share_tick (entries_in x) (entries_in y) ≡ false)
    (few : n + m ≤ most_words) where
  merge-ready : Ready 0 (merge (entries_in x) (entries_in y))
  merge-ready =
      ready (small-interleaved (merge-interleaved (entries_in x) (entries_in y)) (entries-small x first) (entries-small y second))
      (merge-rises (entries_in x) (entries_in y) (entries-rise x first) (entries-rise y second) apart)

  merge-long : length (merge (entries_in x) (entries_in y)) ≡ n + m
  merge-long =
      omega (arith, interleaved-count (merge-interleaved (entries_in x) (entries_in y)), entries-count x first, entries-count y second)

  merge-short : length (head_line ++ entry_lines (merge (entries_in x) (entries_in y))) ≤ most_bytes
  unfolding head_line head_text ascii
  merge-short =
      omega (
        arith,
        length-append head_line (entry_lines (merge (entries_in x) (entries_in y))),
        merge-lines (entries_in x) (entries_in y),
        entries-short x first,
        entries-short y second,
      )

  pub merged-read : import_of (merged_text x y) ≡ Ok (n + m)
  unfolding merged_text merge_text
  merged-read = text-read merge-ready (omega (arith, merge-long)) merge-short ∙ ap Ok merge-long

  pub merged-entries : entries_in (merged_text x y) ≡ merge (entries_in x) (entries_in y)
  unfolding merged_text merge_text
  merged-entries = text-entries merge-ready (omega (arith, merge-long)) merge-short
