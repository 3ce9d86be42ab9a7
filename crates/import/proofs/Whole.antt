-- Every line of a text judged, and the answer.
-- Assumes nothing.
use mathlib.Core.Path.{◌≡◌, refl, sym, ap, ◌∙◌}
use mathlib.Core.Bool.{Bool, true, false, cond}
use mathlib.Core.List.{List, [], ◌∷◌}
use Prim.Native.Nat.{ℕ, ◌+◌, ◌≤◌}
use native.Mathlib.Omega.{arith}
use borrow.Author.Tests.{leb-false}
use lib.Dec.{eqb, leb, ltb}
use lib.ListN.{length, take}
use Rattle.timed.specs.List.{most_words}
use Rattle.text.specs.Lines.{head_text}
use Rattle.import.specs.Line.{is_text, line_of}
use Rattle.import.specs.Read.{most_bytes, lines, begin, next, fault, with_word, with_end, by_line, judged, judged_all, read_of, answer_by, import_of}
use Rattle.import.specs.declared.line.Line.{Line}
use Rattle.import.specs.declared.line.Line.TheVariants.{Word, End}
use Rattle.import.specs.declared.progress.Progress.{Progress}
use Rattle.import.proofs.Lines.{lines-few}
use Rattle.std.specs.Prelude.{Option, Some, None, Result, Ok, Err}
use Rattle.import.specs.declared.reasons.Reason.{Reason}
use Rattle.import.specs.declared.reasons.ImportError.{ImportError}
use Rattle.import.specs.declared.reasons.ImportError.TheVariants.{Refused}
use Rattle.import.specs.declared.reasons.Reason.TheVariants.{NoHeadLine, NotRising, TooManyWords, AfterEnd, TooLong}

-- a line is counted once at most
same_line : (p : Progress) (k : Option Line) → (by_line p k).line ≡ p.line
unfolding by_line
same_line p (Some (Word t w)) = go (ltb t p.least) (leb most_words p.count)
  where
    go : (a b : Bool) → (cond a (fault p NotRising) (cond b (fault p TooManyWords) (with_word p t))).line ≡ p.line
    go true b = refl
    go false true = refl
    go false false = refl
same_line p (Some (End t)) = go (ltb t p.least)
  where
    go : (a : Bool) → (cond a (fault p NotRising) (with_end p)).line ≡ p.line
    go true = refl
    go false = refl
same_line p None = refl

-- a line judged, by what is asked of it
abbrev way : Progress → List ℕ → Option Reason → Bool → Bool → Bool → Progress
way p l a b c d =
    elim a [
      | Some r ↦ p
      | None ↦ cond b (cond c (next p) (fault (next p) NoHeadLine)) (cond d (fault (next p) AfterEnd) (by_line (next p) (line_of l)))
    ]

pub one_line : (p : Progress) (l : List ℕ) → (judged p l).line ≤ p.line + 1
unfolding judged
one_line p l = go p.refused (eqb p.line 0) (is_text l head_text) p.ended
  where
    go : (a : Option Reason) (b c d : Bool) → (way p l a b c d).line ≤ p.line + 1
    go (Some r) b c d = omega arith
    go None true true d = omega arith
    go None true false d = omega arith
    go None false c true = omega arith
    go None false c false = omega (arith, same_line (next p) (line_of l))

-- the lines that are left are judged next
pub record Judging (text : List ℕ) (p : Progress) (left : List (List ℕ)) : Type 0 where
  pub few : p.line + length left ≤ length text
  pub same : read_of text ≡ judged_all p left

pub judging-first : (text : List ℕ) {p : Progress} → p ≡ begin → Judging text p (lines text)
unfolding read_of
judging-first text e = rw e (record { few = omega (arith, lines-few text); same = refl })

module _ {text : List ℕ} {p : Progress} {left : List (List ℕ)} (h : Judging text p left) where
  module _ {l : List ℕ} {ls : List (List ℕ)} (is : left ≡ l ∷ ls) where
    pub judging-next : {q : Progress} → q ≡ judged p l → Judging text q ls
    unfolding judged_all
    judging-next {q} e =
        let few = h.few in
        let long = ap length is in
        let same = ap (λ (x : Progress). x.line) e in
        record { few = omega (arith, one_line p l); same = h.same ∙ rw (is, e) }

  pub judging-done : left ≡ [] → p ≡ read_of text
  unfolding judged_all
  judging-done none = sym (h.same ∙ rw none)

-- there are never too many words
few-after-line : (p : Progress) (k : Option Line) → p.count ≤ most_words → (by_line p k).count ≤ most_words
unfolding by_line
few-after-line p (Some (Word t w)) h = go (ltb t p.least) (leb most_words p.count) refl
  where
    go : (a b : Bool) → leb most_words p.count ≡ b
        → (cond a (fault p NotRising) (cond b (fault p TooManyWords) (with_word p t))).count ≤ most_words
    go true b e = h
    go false true e = h
    go false false e = omega (arith, leb-false most_words p.count e)
few-after-line p (Some (End t)) h = go (ltb t p.least)
  where
    go : (a : Bool) → (cond a (fault p NotRising) (with_end p)).count ≤ most_words
    go true = h
    go false = h
few-after-line p None h = h

few-after : (p : Progress) (l : List ℕ) → p.count ≤ most_words → (judged p l).count ≤ most_words
unfolding judged
few-after p l h = go p.refused (eqb p.line 0) (is_text l head_text) p.ended
  where
    go : (a : Option Reason) (b c d : Bool) → (way p l a b c d).count ≤ most_words
    go (Some r) b c d = h
    go None true true d = h
    go None true false d = h
    go None false c true = h
    go None false c false = few-after-line (next p) (line_of l) h

few-after-all : (p : Progress) (ls : List (List ℕ)) → p.count ≤ most_words → (judged_all p ls).count ≤ most_words
unfolding judged_all
few-after-all p [] h = h
few-after-all p (l ∷ ls) h = few-after-all (judged p l) ls (few-after p l h)

-- the answer, by what is asked of what was read
abbrev pub told : Progress → Option Reason → Bool → Result ℕ ImportError
told p a b = elim a [ Some r ↦ Err (Refused r p.line) | None ↦ cond b (Err (Refused NoHeadLine 1)) (Ok p.count) ]

-- what an answer says of what was read
pub record Sound (p : Progress) (n : ℕ) : Type 0 where
  pub sound : p.refused ≡ None
  pub some : eqb p.line 0 ≡ false
  pub counts : n ≡ p.count

pub answer-sound : (p : Progress) {n : ℕ} → answer_by p ≡ Ok n → Sound p n
unfolding answer_by
answer-sound p {n} e = go p.refused refl (eqb p.line 0) refl e
  where
    go : (a : Option Reason) → p.refused ≡ a → (b : Bool) → eqb p.line 0 ≡ b
        → told p a b ≡ Ok n → Sound p n
    go (Some r) x b y e = absurd (cc)
    go None x true y e = absurd (cc)
    go None x false y e = record { sound = x; some = y; counts = cc }

pub import-sound : (text : List ℕ) {n : ℕ} → import_of text ≡ Ok n → Sound (read_of text) n
unfolding import_of
import-sound text {n} e = go (ltb most_bytes (length text)) e
  where
    go : (a : Bool) → cond a (Err (Refused TooLong (length (lines (take (most_bytes + 1) text))))) (answer_by (read_of text)) ≡ Ok n → Sound (read_of text) n
    go true e = absurd (cc)
    go false e = answer-sound (read_of text) e

pub import-few : (text : List ℕ) {n : ℕ} → import_of text ≡ Ok n → n ≤ most_words
unfolding read_of
import-few text e =
    let few : (read_of text).count ≤ most_words = few-after-all begin (lines text) (omega arith) in
    let counts = (import-sound text e).counts in
    omega arith
