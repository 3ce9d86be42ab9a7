-- The end of an inspection, and the whole of it, written part by part.
-- Assumes nothing.
use mathlib.Core.Path.{◌≡◌, ap}
use mathlib.Core.Bool.{true}
use mathlib.Core.List.{List}
use Prim.Native.Nat.{ℕ}
use native.Mathlib.Nat.{zero-add}
use borrow.Author.Tests.{le-leb}
use lib.ListN.{length}
use Rattle.timed.specs.List.{is_list}
use Rattle.timed.proofs.Rising.{list-few}
use Rattle.head.specs.State.{power_on}
use Rattle.head.specs.List.{head_listed, list_of}
use Rattle.head.specs.declared.state.Head.{Head}
use Rattle.head.specs.declared.list.Listed.{Listed}
use Rattle.head.proofs.Bounds.{power-on-range}
use Rattle.layout.specs.Written.{Written}
use Rattle.layout.specs.Adds.{Adds}
use Rattle.layout.specs.declared.writer.Writer.{Writer}
use Rattle.layout.proofs.Adding.{adds_three}
use Rattle.inspection.specs.Rows.{words_text}
use Rattle.inspection.specs.Inspection.{title_text, left_text, last_settings, counts_text, end_text, counts_of, inspection, inspection_text, inspected_of, inspection_after}
use Rattle.inspection.specs.declared.counts.Counts.{Counts}
use Rattle.std.specs.Prelude.{Ok}

pub last-head : (ws ts : List ℕ) → is_list ws ts ≡ true → {s : Head} → s ≡ power_on → {z : Listed} → z ≡ list_of s ws ts 256
    → z.head ≡ head_listed ws ts power_on
unfolding list_of
last-head ws ts fits on is =
    rw (on, power-on-range, fits, le-leb (length ws) 256 (list-few ws ts fits)) at (ap (λ (z : Listed). z.head) is)

module _ (z : Head) (words : ℕ) (c : Counts) {l m₁ m₂ m₃ : Writer} where
  pub written-end : Adds l m₁ (left_text z.begun.count)
      → (s : Head) → s ≡ power_on → Adds m₁ m₂ (last_settings z.settings s.settings)
      → Adds m₂ m₃ (counts_text words c)
      → Adds l m₃ (end_text z words c)
  unfolding end_text
  written-end left s is settings counts = adds_three left (rw is at settings) counts

module _ (ws ts : List ℕ) (c : Counts) (counts : c ≡ counts_of ws ts) {l m₁ m₂ m₃ : Writer} where
  pub written-inspection : Adds l m₁ title_text → Adds m₁ m₂ (words_text 2 ws ts power_on)
      → Adds m₂ m₃ (end_text (head_listed ws ts power_on) (length ws) c)
      → Adds l m₃ (inspection_text ws ts)
  unfolding inspection_text
  written-inspection title words end = adds_three title words (rw counts at end)

-- the answer, and the bytes that come back: us and vs are the list that words and ticks make
module _ (ws ts us vs old : List ℕ) (fits : is_list us vs ≡ true) (words : us ≡ ws) (ticks : vs ≡ ts) (c : Counts) (counts : c ≡ counts_of us vs)
    {n : ℕ} {new : List ℕ} (w : Written old 0 (inspection_text us vs) n new) where
  pub done-answer : Ok (inspection n c) ≡ inspected_of ws ts (length old)
  unfolding inspected_of
  done-answer = rw (← words, ← ticks, fits, counts, w.place, zero-add (length (inspection_text us vs)))

  pub done-bytes : new ≡ inspection_after (Ok (inspection n c)) (inspection_text ws ts) old
  unfolding inspection_after
  done-bytes = rw (← words, ← ticks) w.bytes
