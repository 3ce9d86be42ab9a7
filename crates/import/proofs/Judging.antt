-- The ways through the judging of a line.
-- Assumes nothing.
use mathlib.Core.Path.{◌≡◌, ◌∙◌}
use mathlib.Core.Bool.{true, false}
use mathlib.Core.List.{List}
use Prim.Native.Nat.{ℕ, ◌≤◌, ◌<◌}
use borrow.Author.Tests.{eq-eqb, ne_eqb, lt-ltb, le-ltb, le-leb, lt-leb}
use Rattle.timed.specs.List.{most_words}
use Rattle.text.specs.Lines.{head_text}
use Rattle.import.specs.Line.{is_text, line_of}
use Rattle.import.specs.Read.{next, fault, with_word, with_end, by_line, judged, answer_by}
use Rattle.import.specs.declared.line.Line.{Line}
use Rattle.import.specs.declared.line.Line.TheVariants.{Word, End}
use Rattle.import.specs.declared.progress.Progress.{Progress}
use Rattle.std.specs.Prelude.{Option, Some, None, Ok}
use Rattle.import.specs.declared.reasons.Reason.{Reason}
use Rattle.import.specs.declared.reasons.Reason.TheVariants.{NoWordLine, NotRising, TooManyWords, AfterEnd}

module _ (p : Progress) {line : Option Line} where
  module _ {t w : ℕ} (is : line ≡ Some (Word t w)) where
    pub word-early : t < p.least → {r : Progress} → r ≡ fault p NotRising → r ≡ by_line p line
    unfolding by_line
    word-early h e = rw (e, is, lt-ltb t p.least h)

    module _ (rises : p.least ≤ t) where
      pub word-many : most_words ≤ p.count → {r : Progress} → r ≡ fault p TooManyWords → r ≡ by_line p line
      unfolding by_line
      word-many h e = rw (e, is, le-ltb t p.least rises, le-leb most_words p.count h)

      pub word-taken : p.count < most_words → with_word p t ≡ by_line p line
      unfolding by_line
      word-taken h = rw (is, le-ltb t p.least rises, lt-leb most_words p.count h)

  module _ {t : ℕ} (is : line ≡ Some (End t)) where
    pub end-early : t < p.least → {r : Progress} → r ≡ fault p NotRising → r ≡ by_line p line
    unfolding by_line
    end-early h e = rw (e, is, lt-ltb t p.least h)

    pub end-taken : p.least ≤ t → with_end p ≡ by_line p line
    unfolding by_line
    end-taken h = rw (is, le-ltb t p.least h)

  pub other-refused : line ≡ None → {r : Progress} → r ≡ fault p NoWordLine → r ≡ by_line p line
  unfolding by_line
  other-refused is e = rw (e, is)

module _ (p : Progress) where
  module _ (l : List ℕ) where
    pub judged-over : {r : Reason} → p.refused ≡ Some r → p ≡ judged p l
    unfolding judged
    judged-over h = rw h

    module _ (sound : p.refused ≡ None) {n : Progress} (is : n ≡ next p) where
      pub judged-head : p.line ≡ 0 → is_text l head_text ≡ true → n ≡ judged p l
      unfolding judged
      judged-head first e = rw (is, sound, eq-eqb p.line 0 first, e)

      module _ (later : p.line ≡ 0 → ⊥) where
        pub judged-after : p.ended ≡ true → {r : Progress} → r ≡ fault n AfterEnd → r ≡ judged p l
        unfolding judged
        judged-after e f = f ∙ rw (is, sound, ne_eqb p.line 0 later, e)

        pub judged-body : p.ended ≡ false → {k : Option Line} → k ≡ line_of l → {r : Progress} → r ≡ by_line n k → r ≡ judged p l
        unfolding judged
        judged-body e line f = f ∙ rw (is, line, sound, ne_eqb p.line 0 later, e)

  -- the answer
  pub answer-done : p.refused ≡ None → (p.line ≡ 0 → ⊥) → Ok p.count ≡ answer_by p
  unfolding answer_by
  answer-done sound h = rw (sound, ne_eqb p.line 0 h)
