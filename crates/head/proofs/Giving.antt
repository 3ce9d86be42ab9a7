-- The words of a list given one after another: what is left of it after i of them.
-- Assumes nothing.
use mathlib.Core.Path.{◌≡◌, refl, sym, ap, ◌∙◌}
use mathlib.Core.Bool.{true}
use mathlib.Core.List.{List, [], ◌∷◌, ◌++◌}
use Prim.Native.Nat.{ℕ, suc, ◌+◌, ◌≤◌, ◌<◌}
use native.Mathlib.Nat.{zero-add}
use native.Mathlib.Numerals.{add-one}
use native.Mathlib.Omega.{arith}
use mir.Syntax.{w16}
use mir.Val.{Fits}
use lib.ListN.{length, get_or, drop, set, drop_of_length-le, length-set}
use lib.Seq.{drop-cons, sets, sets-eq}
use Rattle.timed.specs.List.{is_list}
use Rattle.timed.proofs.Rising.{list-even}
use Rattle.head.specs.Range.{in_range}
use Rattle.head.specs.Word.{answer_of}
use Rattle.head.specs.Tick.{ticks_of}
use Rattle.head.specs.Ticks.{elapsed}
use Rattle.head.specs.Numbers.{outcome_number}
use Rattle.head.specs.List.{gap_after, stepped, head_listed, outcomes_listed, numbers_listed}
use Rattle.head.specs.declared.state.Head.{Head}
use Rattle.head.specs.declared.word.Answered.{Answered}
use Rattle.head.proofs.Keep.{word_keeps, ticks-keep}
use Rattle.head.proofs.Ticks.{ticks-elapsed}
use Rattle.head.proofs.Numbered.{answer-most}

-- one number for each word
pub numbers-long : (ws ts : List ℕ) (s : Head) → length ws ≡ length ts → length (numbers_listed ws ts s) ≡ length ws
unfolding numbers_listed outcomes_listed
numbers-long [] ts s h = refl
numbers-long (w ∷ ws) [] s h = absurd (omega arith)
numbers-long (w ∷ ws) (t ∷ ts) s h = ap suc (numbers-long ws ts (stepped s w t ts) (omega arith))

-- i words of a list have been given: what is left of it, from the head on, and of the outcomes
pub record Giving (ws ts : List ℕ) (s : Head) (old now : List ℕ) (head : Head) (i : ℕ) : Type 0 where
  pub even : length ws ≡ length ts
  pub room : length ws ≤ length now
  pub long : length now ≡ length old
  pub same : head_listed ws ts s ≡ head_listed (drop i ws) (drop i ts) head
  pub written : sets old 0 (numbers_listed ws ts s) ≡ sets now i (numbers_listed (drop i ws) (drop i ts) head)

-- `stepped`: a is the answer to word w
module _ (s : Head) (w : ℕ) (a : Answered) (answer : a ≡ answer_of s w) where
  -- an outcome's number is at most the word's, or a cause's
  pub number_fits : Fits w16 w → (n : ℕ) → n ≡ outcome_number a.outcome → Fits w16 n
  number_fits fits n number =
      let m = fits.fits in
      record { fits = omega (arith, number, ap (λ (a : Answered). outcome_number a.outcome) answer, answer-most s w m) }

  pub step-head : in_range s ≡ true → (h : Head) (g : ℕ) → h ≡ elapsed g a.head → h ≡ ticks_of g (answer_of s w).head
  step-head ranged h g is =
      is ∙ ap (λ (a : Answered). elapsed g a.head) answer ∙ sym (ticks-elapsed g (answer_of s w).head (word_keeps s ranged w))

  pub step-ranged : in_range s ≡ true → (h : Head) (g : ℕ) → h ≡ elapsed g a.head → in_range h ≡ true
  step-ranged ranged h g is = rw (step-head ranged h g is) (ticks-keep g (answer_of s w).head (word_keeps s ranged w))

  pub step-number : (n : ℕ) → n ≡ outcome_number a.outcome → n ≡ outcome_number (answer_of s w).outcome
  step-number n number = rw (← answer) number

module _ {ws ts : List ℕ} {s : Head} {old : List ℕ} where
  pub giving-first : is_list ws ts ≡ true → length ws ≤ length old → Giving ws ts s old old s 0
  giving-first fits room =
      record {
        even = list-even ws ts fits;
        room = room;
        long = refl;
        same = refl;
        written = refl;
      }

  module _ {now : List ℕ} {head : Head} {i : ℕ} (h : Giving ws ts s old now head i) where
    module _ (more : i < length ws) where
      abbrev w : ℕ
      w = get_or ws i 0

      abbrev t : ℕ
      t = get_or ts i 0

      abbrev later : List ℕ
      later = drop (i + 1) ts

      giving-ticks : i < length ts
      giving-ticks = let even = h.even in omega arith

      split-words : drop i ws ≡ w ∷ drop (i + 1) ws
      split-words = drop-cons ws i 0 more ∙ ap (λ (j : ℕ). w ∷ drop j ws) (sym (add-one i))

      split-ticks : drop i ts ≡ t ∷ later
      split-ticks = drop-cons ts i 0 giving-ticks ∙ ap (λ (j : ℕ). t ∷ drop j ts) (sym (add-one i))

      core : Giving ws ts s old (set now i (outcome_number (answer_of head w).outcome)) (stepped head w t later) (i + 1)
      unfolding stepped head_listed numbers_listed outcomes_listed
      core =
          record {
            even = h.even;
            room = let room = h.room in simp length-set (omega arith);
            long = simp length-set h.long;
            same = h.same ∙ next-head;
            written = h.written ∙ next-written;
          }
        where
          next-head : head_listed (drop i ws) (drop i ts) head ≡ head_listed (drop (i + 1) ws) later (stepped head w t later)
          next-head = rw (split-words, split-ticks)

          next-written : sets now i (numbers_listed (drop i ws) (drop i ts) head)
              ≡ sets (set now i (outcome_number (answer_of head w).outcome)) (i + 1)
              (numbers_listed (drop (i + 1) ws) later (stepped head w t later))
          next-written = rw (split-words, split-ticks, add-one i)

      pub giving-next : (g : ℕ) → g ≡ gap_after (get_or ts i 0) (drop (i + 1) ts)
          → (after : Head) → after ≡ ticks_of g (answer_of head (get_or ws i 0)).head
          → (n : ℕ) → n ≡ outcome_number (answer_of head (get_or ws i 0)).outcome → Giving ws ts s old (set now i n) after (i + 1)
      unfolding stepped
      giving-next g gap after is n number = rw (number, is, gap) core

    module _ (all : length ws ≤ i) where
      over : drop i ws ≡ []
      over = drop_of_length-le ws {i = i} all

      pub giving-head : head ≡ head_listed ws ts s
      unfolding head_listed
      giving-head = sym (h.same ∙ rw over)

      pub giving-written : now ≡ numbers_listed ws ts s ++ drop (length ws) old
      unfolding numbers_listed outcomes_listed
      giving-written =
          let e : sets old 0 (numbers_listed ws ts s) ≡ now = h.written ∙ rw over in
          let n = numbers-long ws ts s h.even in
          let room = h.room in
          let long = h.long in
          sym e ∙ sets-eq (numbers_listed ws ts s) old 0 (omega arith) ∙ rw (n, zero-add (length ws))

-- a list keeps a state in range
pub listed-keeps : (ws ts : List ℕ) (s : Head) → in_range s ≡ true → in_range (head_listed ws ts s) ≡ true
unfolding head_listed stepped
listed-keeps [] ts s h = h
listed-keeps (w ∷ ws) [] s h = h
listed-keeps (w ∷ ws) (t ∷ ts) s h =
    listed-keeps ws ts (stepped s w t ts) (ticks-keep (gap_after t ts) (answer_of s w).head (word_keeps s h w))
