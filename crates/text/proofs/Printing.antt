-- The lines of ticks and words one after another.
-- Assumes nothing.
use mathlib.Core.Path.{◌≡◌}
use mathlib.Core.List.{List, [], ◌++◌}
use Prim.Native.Nat.{ℕ, ◌+◌, ◌≤◌, ◌<◌}
use native.Mathlib.Numerals.{add-one}
use native.Mathlib.Omega.{arith}
use lib.ListN.{length, get_or, take, drop, length-take, drop_of_length-le}
use lib.Seq.{drop-cons, get_or-take, length-take-le}
use Rattle.layout.specs.Adds.{Adds}
use Rattle.layout.specs.declared.writer.Writer.{Writer}
use Rattle.layout.proofs.Adding.{Partly, partly-first, partly-next, partly-done}
use Rattle.text.specs.Lines.{word_line, word_lines}

-- the lines of the first so many ticks and words, from the ith on
abbrev lines_from : List ℕ → List ℕ → ℕ → ℕ → List ℕ
lines_from ts ws count i = word_lines (drop i (take count ts)) (drop i (take count ws))

module _ (ts ws : List ℕ) (count i : ℕ) where
  lines_next : count ≤ length ts → count ≤ length ws → i < count
      → lines_from ts ws count i ≡ word_line (get_or ts i 0) (get_or ws i 0) ++ lines_from ts ws count (i + 1)
  unfolding word_lines
  lines_next t w more =
      let more-ticks : i < length (take count ts) = omega (arith, length-take-le count ts t) in
      let more-words : i < length (take count ws) = omega (arith, length-take-le count ws w) in
      rw (add-one i, drop-cons (take count ts) i 0 more-ticks, drop-cons (take count ws) i 0 more-words, get_or-take count ts i 0 more, get_or-take count ws i 0 more)

  lines_none : count ≤ i → lines_from ts ws count i ≡ []
  unfolding word_lines
  lines_none all =
      let none : length (take count ts) ≤ i = omega (arith, length-take count ts) in
      rw (drop_of_length-le (take count ts) none)

-- the lines from the ith on are left
pub record Printing (old : Writer) (ts ws : List ℕ) (count : ℕ) (new : Writer) (i : ℕ) : Type 0 where
  pub few : i ≤ count
  pub part : Partly old (word_lines (take count ts) (take count ws)) (lines_from ts ws count i) new

module _ {old : Writer} {ts ws : List ℕ} {count : ℕ} where
  pub printing-first : Printing old ts ws count old 0
  printing-first = record { few = omega arith; part = partly-first }

  module _ {new : Writer} {i : ℕ} (h : Printing old ts ws count new i) where
    pub printing-next : count ≤ length ts → count ≤ length ws → i < count
        → {new' : Writer} → Adds new new' (word_line (get_or ts i 0) (get_or ws i 0))
        → Printing old ts ws count new' (i + 1)
    printing-next t w more line = record { few = omega arith; part = partly-next h.part (lines_next ts ws count i t w more) line }

    pub printed : count ≤ i → Adds old new (word_lines (take count ts) (take count ws))
    printed all = partly-done h.part (lines_none ts ws count i all)
