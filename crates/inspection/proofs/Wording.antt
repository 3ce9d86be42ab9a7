-- A word's line written part by part, and the words of a list one after another.
-- Assumes nothing.
use mathlib.Core.Path.{◌≡◌, ap, ◌∙◌}
use mathlib.Core.Bool.{Bool, true}
use mathlib.Core.List.{List, [], ◌∷◌, ◌++◌}
use Prim.Native.Nat.{ℕ, ◌+◌, ◌≤◌, ◌<◌}
use native.Mathlib.Numerals.{add-one}
use native.Mathlib.Omega.{arith}
use lib.ListN.{length, get_or, drop, drop_of_length-le}
use lib.Seq.{drop-cons}
use Rattle.timed.specs.List.{is_list, most_words}
use Rattle.timed.proofs.Rising.{list-even, list-few}
use Rattle.head.specs.State.{power_on}
use Rattle.head.specs.Busy.{busy_ticks}
use Rattle.head.specs.Word.{answer_of}
use Rattle.head.specs.Numbers.{outcome_number, is_cause}
use Rattle.head.specs.List.{stepped}
use Rattle.head.specs.declared.state.Head.{Head}
use Rattle.head.specs.declared.word.Answered.{Answered}
use Rattle.layout.specs.Numbers.{bit, hex_of}
use Rattle.layout.specs.Adds.{Adds}
use Rattle.layout.specs.declared.writer.Writer.{Writer}
use Rattle.layout.specs.Template.{layout}
use Rattle.layout.proofs.Adding.{adds_three, adds_four, Partly, partly-first, partly-next, partly-done}
use Rattle.inspection.specs.Meaning.{kind_text}
use Rattle.inspection.specs.Notes.{notes_text}
use Rattle.inspection.specs.Rows.{outcome_template, tick_text, outcome_text, place_text, saying_text, word_text, words_text}

module _ {l m₁ : Writer} where
  pub written-outcome : (n : ℕ) {x : Bool} → x ≡ is_cause n → {b : ℕ} → b ≡ bit x → Adds l m₁ (layout outcome_template (b ∷ n ∷ []) [])
      → Adds l m₁ (outcome_text n)
  unfolding outcome_text
  written-outcome n cause bits w = rw (bits, cause) at w

  module _ {m₂ m₃ : Writer} where
    pub written-place : (line tick w n : ℕ) → Adds l m₁ (tick_text line tick) → {hex : List ℕ} → hex ≡ hex_of w → Adds m₁ m₂ hex
        → Adds m₂ m₃ (outcome_text n)
        → Adds l m₃ (place_text line tick w n)
    unfolding place_text
    written-place line tick w n first is hex last = adds_three first (rw is at hex) last

-- the answer of the head, and its number
module _ (line tick w : ℕ) (s : Head) (a : Answered) (answer : a ≡ answer_of s w) {n : ℕ} (number : n ≡ outcome_number a.outcome)
    {l m₁ m₂ m₃ m₄ : Writer} where
  pub written-word : Adds l m₁ (place_text line tick w n) → Adds m₁ m₂ (kind_text w)
      → Adds m₂ m₃ (saying_text n w a.head.settings.sine a.head.settings.cosine a.head.work.busy)
      → Adds m₃ m₄ (notes_text n w s a.head)
      → Adds l m₄ (word_text line tick w s)
  unfolding word_text busy_ticks
  written-word place kind saying notes =
      rw (← answer, ← number) (adds_four place kind saying notes)

-- the words from the ith on are left, which the head gets next
pub record Wording (old : Writer) (ws ts : List ℕ) (new : Writer) (s : Head) (i : ℕ) : Type 0 where
  pub even : length ws ≡ length ts
  pub few : length ws ≤ most_words
  pub within : i ≤ length ws
  pub part : Partly old (words_text 2 ws ts power_on) (words_text (i + 2) (drop i ws) (drop i ts) s) new

module _ {old : Writer} {ws ts : List ℕ} where
  pub wording-first : is_list ws ts ≡ true → {s : Head} → s ≡ power_on → Wording old ws ts old s 0
  wording-first fits is =
      rw is (record { even = list-even ws ts fits; few = list-few ws ts fits; within = omega arith; part = partly-first })

  module _ {new : Writer} {s : Head} {i : ℕ} (h : Wording old ws ts new s i) where
    pub wording-ticks : i < length ws → i < length ts
    wording-ticks more = let even = h.even in omega arith

    pub wording-line : i < length ws → i + 2 ≤ 1024
    wording-line more = let few = h.few in omega arith

    module _ (more : i < length ws) where
      left : words_text (i + 2) (drop i ws) (drop i ts) s
          ≡ word_text (i + 2) (get_or ts i 0) (get_or ws i 0) s
          ++ words_text (i + 1 + 2) (drop (i + 1) ws) (drop (i + 1) ts) (stepped s (get_or ws i 0) (get_or ts i 0) (drop (i + 1) ts))
      unfolding words_text
      left =
          let e : i + 2 + 1 ≡ i + 1 + 2 = omega arith in
          let words : drop i ws ≡ get_or ws i 0 ∷ drop (i + 1) ws = drop-cons ws i 0 more ∙ rw (add-one i) in
          let ticks : drop i ts ≡ get_or ts i 0 ∷ drop (i + 1) ts = drop-cons ts i 0 (wording-ticks more) ∙ rw (add-one i) in
          rw (words, ticks, e)

      pub wording-next : {new' : Writer} → Adds new new' (word_text (i + 2) (get_or ts i 0) (get_or ws i 0) s)
          → {z : Head} → z ≡ stepped s (get_or ws i 0) (get_or ts i 0) (drop (i + 1) ts)
          → Wording old ws ts new' z (i + 1)
      wording-next w is =
          rw is
          (record { even = h.even; few = h.few; within = omega arith; part = partly-next h.part left w })

    pub worded : length ws ≤ i → Adds old new (words_text 2 ws ts power_on)
    unfolding words_text
    worded all =
        partly-done h.part (ap (λ (l : List ℕ). words_text (i + 2) l (drop i ts) s) (drop_of_length-le ws {i = i} all))
