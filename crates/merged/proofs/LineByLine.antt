-- Entries written line by line, and how long the lines are.
-- Assumes nothing.
use mathlib.Core.Path.{◌≡◌, refl, ap, ◌∙◌}
use mathlib.Core.List.{List, [], ◌∷◌, ◌++◌, append_assoc}
use Prim.Native.Nat.{ℕ, ◌+◌, ◌^◌, ◌≤◌, ◌<◌}
use native.Mathlib.Numerals.{add-one}
use native.Mathlib.Omega.{arith}
use lib.ListN.{length, get_or, drop, length-append, drop_of_length-le}
use lib.Seq.{drop-cons}
use Rattle.layout.specs.Numbers.{ascii, hex_of}
use Rattle.layout.specs.Adds.{Adds}
use Rattle.layout.specs.declared.writer.Writer.{Writer}
use Rattle.layout.proofs.Digits.{decimal-long}
use Rattle.layout.proofs.Adding.{Partly, partly-next, partly-done}
use Rattle.text.specs.Lines.{timed_text, word_line}
use Rattle.merge.specs.Merge.{tick_in, word_in}
use Rattle.merged.specs.Text.{entry_lines}

-- the line of an entry is that of its tick and word
pub line-added : (e : ℕ) {t : ℕ} → t ≡ tick_in e → {u v : Writer} → Adds u v (word_line t (word_in e)) → Adds u v (word_line (tick_in e) (word_in e))
line-added e is w = rw is at w

lines_next : (es : List ℕ) (i : ℕ) → i < length es
    → entry_lines (drop i es) ≡ word_line (tick_in (get_or es i 0)) (word_in (get_or es i 0)) ++ entry_lines (drop (i + 1) es)
unfolding entry_lines
lines_next es i more = rw (add-one i, drop-cons es i 0 more)

lines_none : (es : List ℕ) (i : ℕ) → length es ≤ i → entry_lines (drop i es) ≡ []
unfolding entry_lines
lines_none es i all = rw (drop_of_length-le es all)

-- the lines from the ith on are left
module _ {old : Writer} (es : List ℕ) {new : Writer} (i : ℕ) (part : Partly old (entry_lines es) (entry_lines (drop i es)) new) where
  pub lines-left-next : i < length es → {new' : Writer} → Adds new new' (word_line (tick_in (get_or es i 0)) (word_in (get_or es i 0)))
      → Partly old (entry_lines es) (entry_lines (drop (i + 1) es)) new'
  lines-left-next more line = partly-next part (lines_next es i more) line

  pub lines-added : length es ≤ i → Adds old new (entry_lines es)
  lines-added all = partly-done part (lines_none es i all)

-- the lines of two lists one after another
pub lines-append : (xs ys : List ℕ) → entry_lines (xs ++ ys) ≡ entry_lines xs ++ entry_lines ys
unfolding entry_lines
lines-append [] ys = refl
lines-append (x ∷ xs) ys =
    ap (λ (l : List ℕ). word_line (tick_in x) (word_in x) ++ l) (lines-append xs ys)
    ∙ rw (append_assoc (word_line (tick_in x) (word_in x)) (entry_lines xs) (entry_lines ys))

-- a line has at most 16 bytes
pub line-few : (t w : ℕ) → t < 2 ^ 32 → length (word_line t w) ≤ 16
unfolding word_line timed_text ascii hex_of
line-few t w h = simp length-append (omega (arith, decimal-long 9 t (omega arith)))
