-- A printed line reads as what it says, and no newline stands in it.
-- Assumes nothing.
use mathlib.Core.Path.{◌≡◌, refl, sym, ap, ◌∙◌}
use mathlib.Core.Bool.{Bool, true, false, cond, ◌&&◌, and-false}
use mathlib.Core.List.{List, [], ◌∷◌, ◌++◌, append_assoc}
use Prim.Native.Nat.{ℕ, zero, suc, ◌+◌, ◌-◌, ◌/◌, ◌%◌, ◌≤◌, ◌<◌}
use native.Mathlib.Omega.{arith}
use borrow.Author.Tests.{ltb-true, ltb-false, eq-eqb, ne_eqb}
use lib.Dec.{ltb}
use lib.ListN.{length, length-append}
use lib.Seq.{take_at, drop_at}
use Rattle.layout.specs.Numbers.{ascii, digit, decimal_of, hex_digit, hex_of}
use Rattle.layout.proofs.Digits.{decimal-one, decimal-more}
use Rattle.text.specs.Lines.{head_text, timed_text, end_text}
use Rattle.import.specs.Line.{stands_for, upper, is_text, tick_limit, word_limit, tick_in, word_in, end_in, reads_timed, line_of}
use Rattle.import.specs.Read.{before, lines}
use Rattle.import.specs.declared.line.Line.TheVariants.{Word, End}
use Rattle.import.proofs.Reading.{timed-reads, end_reads, line_word, line-end}
use Rattle.import.proofs.Values.{decimal-value, word_value}
use Rattle.std.specs.Prelude.{Some}

-- a text reads as itself
pub same_text : (l : List ℕ) → is_text l l ≡ true
unfolding is_text stands_for
same_text [] = refl
same_text (c ∷ cs) = rw (eq-eqb c c refl, same_text cs)

-- a tick and its word
module _ (t w : ℕ) where
  timed-before : timed_text t w ≡ decimal_of t ++ (32 ∷ hex_of w)
  unfolding timed_text ascii
  timed-before = append_assoc (decimal_of t) (32 ∷ []) (hex_of w)

  timed-long : length (timed_text t w) ≡ length (decimal_of t) + 5
  unfolding hex_of
  timed-long = ap length timed-before ∙ length-append (decimal_of t) (32 ∷ hex_of w)

  tick-back : t < tick_limit → tick_in (timed_text t w) ≡ t
  unfolding tick_in
  tick-back h =
      let front : length (timed_text t w) - 5 ≡ length (decimal_of t) = omega (arith, timed-long) in
      rw (front, timed-before, take_at (decimal_of t) (32 ∷ hex_of w) (length (decimal_of t)) refl) (decimal-value t h)

  word_back : w < word_limit → word_in (timed_text t w) ≡ w
  unfolding word_in
  word_back h =
      let front : length (timed_text t w) - 4 ≡ length (decimal_of t ++ (32 ∷ [])) = omega (arith, timed-long, length-append (decimal_of t) (32 ∷ [])) in
      let split : timed_text t w ≡ (decimal_of t ++ (32 ∷ [])) ++ hex_of w = timed-before ∙ sym (append_assoc (decimal_of t) (32 ∷ []) (hex_of w)) in
      rw (front, split, drop_at (decimal_of t ++ (32 ∷ [])) (hex_of w) (length (decimal_of t ++ (32 ∷ []))) refl) (word_value w h)

  pub timed-line : t < tick_limit → w < word_limit → line_of (timed_text t w) ≡ Some (Word t w)
  timed-line h k =
      let reads = timed-reads (timed_text t w) t w h k refl in
      sym (line_word (timed_text t w) (sym (tick-back h)) (sym (word_back k)) reads (same_text (timed_text t w)))

-- the digits of a number: the first, and that none is below a digit
pub record Digits (l : List ℕ) : Type 0 where
  pub first : ℕ
  pub others : List ℕ
  pub are : l ≡ first ∷ others
  pub low : 48 ≤ first
  pub high : first ≤ 57

decimal-digits : (k t : ℕ) → t ≤ k → Digits (decimal_of t)
decimal-digits zero t h = record { first = digit t; others = []; are = decimal-one t (omega arith); low = omega arith; high = omega arith }
decimal-digits (suc k) t h = go (ltb t 10) refl (decimal-digits k (t / 10))
  where
    go : (z : Bool) → ltb t 10 ≡ z → (t / 10 ≤ k → Digits (decimal_of (t / 10))) → Digits (decimal_of t)
    go true e rest =
        let one = ltb-true t 10 e in
        record { first = digit t; others = []; are = decimal-one t one; low = omega arith; high = omega arith }
    go false e rest =
        let more = ltb-false t 10 e in
        let d = rest (omega arith) in
        record {
          first = d.first;
          others = d.others ++ (digit (t % 10) ∷ []);
          are = decimal-more t more ∙ rw d.are;
          low = d.low;
          high = d.high;
        }

-- the end
end-apart : (end t w : ℕ) → is_text (end_text end) (timed_text t w) ≡ false
unfolding end_text ascii is_text stands_for upper
end-apart end t w =
    let d = decimal-digits t t (omega arith) in
    let low = d.low in
    let high = d.high in
    rw (timed-before t w, d.are, ne_eqb 101 d.first (λ (e : _). omega arith), ne_eqb 69 d.first (λ (e : _). omega arith))

end-untimed : (end t w : ℕ) → reads_timed (end_text end) t w ≡ false
unfolding reads_timed
end-untimed end t w = rw (end-apart end t w) (and-false (ltb t tick_limit && ltb w word_limit))

end_back : (end : ℕ) → end < tick_limit → end_in (end_text end) ≡ end
unfolding end_in end_text ascii
end_back end h = decimal-value end h

pub end_line_lem : (end : ℕ) → end < tick_limit → line_of (end_text end) ≡ Some (End end)
end_line_lem end h =
    let l = end_text end in
    let reads = end_reads l end h refl in
    sym (line-end l refl refl (sym (end-untimed end (tick_in l) (word_in l))) refl (sym (end_back end h)) reads (same_text l))

-- no newline, nor any other byte below a space
abbrev pub Plain : List ℕ → Type 0
Plain [] = Unit {0}
Plain (c ∷ cs) = (32 ≤ c) × Plain cs

plain-append : (a b : List ℕ) → Plain a → Plain b → Plain (a ++ b)
plain-append [] b p q = q
plain-append (c ∷ cs) b p q = (p.0, plain-append cs b p.1 q)

plain-within : (k t : ℕ) → t ≤ k → Plain (decimal_of t)
plain-within zero t h = rw (decimal-one t (omega arith)) (omega arith)
plain-within (suc k) t h = go (ltb t 10) refl (plain-within k (t / 10))
  where
    go : (z : Bool) → ltb t 10 ≡ z → (t / 10 ≤ k → Plain (decimal_of (t / 10))) → Plain (decimal_of t)
    go true e rest = rw (decimal-one t (ltb-true t 10 e)) (omega arith)
    go false e rest =
        let high = ltb-false t 10 e in
        rw (decimal-more t high) (plain-append (decimal_of (t / 10)) (digit (t % 10) ∷ []) (rest (omega arith)) (omega arith))

plain-decimal : (t : ℕ) → Plain (decimal_of t)
plain-decimal t = plain-within t t (omega arith)

plain-digit : (d : ℕ) → 32 ≤ hex_digit d
unfolding hex_digit
plain-digit d = go (ltb d 10)
  where
    go : (z : Bool) → 32 ≤ cond z (digit d) (65 + (d - 10))
    go true = omega arith
    go false = omega arith

plain-hex : (w : ℕ) → Plain (hex_of w)
unfolding hex_of
plain-hex w = (plain-digit (w / 4096), (plain-digit (w / 256 % 16), (plain-digit (w / 16 % 16), (plain-digit (w % 16), tt))))

pub plain-head : Plain head_text
unfolding head_text ascii
plain-head = omega arith

pub plain-timed : (t w : ℕ) → Plain (timed_text t w)
plain-timed t w = rw (timed-before t w) (plain-append (decimal_of t) (32 ∷ hex_of w) (plain-decimal t) (omega arith, plain-hex w))

pub plain_end : (end : ℕ) → Plain (end_text end)
unfolding end_text ascii
plain_end end = (omega arith, (omega arith, (omega arith, (omega arith, plain-decimal end))))

-- a line before others
pub lines-line : (l : List ℕ) → Plain l → (rest : List ℕ) → lines (l ++ (10 ∷ rest)) ≡ l ∷ lines rest
unfolding lines before
lines-line [] p rest = refl
lines-line (c ∷ cs) p rest = let low = p.0 in rw (ne_eqb c 10 (λ (e : _). omega arith), lines-line cs p.1 rest)
