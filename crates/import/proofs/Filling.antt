-- Words and ticks taken out of the lines, one after another.
-- Assumes nothing.
use mathlib.Core.Path.{◌≡◌, ◌∙◌}
use mathlib.Core.List.{List, [], ◌∷◌, map}
use Prim.Native.Nat.{ℕ, suc, ◌+◌, ◌-◌, ◌<◌}
use native.Mathlib.Numerals.{add-one}
use native.Mathlib.Omega.{arith}
use lib.ListN.{take, drop, set}
use lib.Seq.{sets}
use Rattle.import.specs.Line.{line_of}
use Rattle.import.specs.Read.{lines, word_of, tick_of, word_lines_in}
use Rattle.import.specs.declared.line.Line.{Line}
use denote.Ref.{Bor}
use Rattle.std.specs.Option.{MatchOption}
use Rattle.std.specs.Prelude.{Option, Some, None}

-- one number of each line that is left
pub record Storing (f : Option Line → ℕ) (text : List ℕ) (count : ℕ) (old new : List ℕ) (left : List (List ℕ)) (i : ℕ) : Type 0 where
  pub same : sets old 0 (map f (word_lines_in count text)) ≡ sets new i (map f (map line_of (take (count - i) left)))

storing-first : (f : Option Line → ℕ) (text : List ℕ) (count : ℕ) (old : List ℕ) {left : List (List ℕ)} → drop 1 (lines text) ≡ left
    → Storing f text count old old left 0
unfolding word_lines_in
storing-first f text count old e =
    let all : count - 0 ≡ count = omega arith in
    record { same = rw (all, e) }

module _ {f : Option Line → ℕ} {text : List ℕ} {count : ℕ} {old new : List ℕ} {left : List (List ℕ)} {i : ℕ} (h : Storing f text count old new left i) where
  storing-next : i < count → {l : List ℕ} {ls : List (List ℕ)} → left ≡ l ∷ ls → {k : Option Line} → k ≡ line_of l
      → Storing f text count old (set new i (f k)) ls (i + 1)
  storing-next few is e =
      let one : count - i ≡ suc (count - (i + 1)) = omega arith in
      record { same = h.same ∙ rw (is, one, ← e, add-one i) }

-- the words and the ticks
pub record Filling (text : List ℕ) (count : ℕ) (old_words old_ticks new_words new_ticks : List ℕ) (left : List (List ℕ)) (i : ℕ) : Type 0 where
  pub words : Storing word_of text count old_words new_words left i
  pub ticks : Storing tick_of text count old_ticks new_ticks left i

-- the lines after the first, where there is one
pub after_first : (text : List ℕ) {left : List (List ℕ)} (r : Option (Bor (List ℕ)))
    → MatchOption r ((lines text ≡ []) × (left ≡ [])) (λ x. lines text ≡ x.now ∷ left) → drop 1 (lines text) ≡ left
after_first text None h = rw (h.0, h.1)
after_first text (Some x) h = rw h

module _ {text : List ℕ} {count : ℕ} {ws ts : List ℕ} where
  pub filling-first : {left : List (List ℕ)} → drop 1 (lines text) ≡ left → Filling text count ws ts ws ts left 0
  filling-first e = record { words = storing-first word_of text count ws e; ticks = storing-first tick_of text count ts e }

  module _ {vs us : List ℕ} {left : List (List ℕ)} {i : ℕ} (h : Filling text count ws ts vs us left i) where
    pub filling-next : i < count → {l : List ℕ} {ls : List (List ℕ)} → left ≡ l ∷ ls → {k : Option Line} → k ≡ line_of l → {vs' : List ℕ}
        → vs' ≡ set vs i (word_of k) → {us' : List ℕ} → us' ≡ set us i (tick_of k) → Filling text count ws ts vs' us' ls (i + 1)
    filling-next few is e p q = rw (p, q) (record { words = storing-next h.words few is e; ticks = storing-next h.ticks few is e })
