-- The merge of two lists of entries as text: how long it is, and the ways through `put_merge` and `put_lists`.
-- Assumes nothing.
use mathlib.Core.Path.{◌≡◌, refl, sym, ap, ◌∙◌}
use mathlib.Core.Bool.{Bool, true, false, cond}
use mathlib.Core.List.{List, ◌∷◌, ◌++◌, append_assoc}
use Prim.Native.Nat.{ℕ, ◌+◌, ◌-◌, ◌≤◌}
use native.Mathlib.Omega.{arith}
use borrow.Author.Tests.{le-ltb}
use lib.Dec.{ltb}
use lib.ListN.{length, take, drop, length-append}
use lib.Seq.{take_at}
use Rattle.layout.specs.Written.{Written, Front}
use Rattle.layout.proofs.Writing.{written_is, written-front}
use Rattle.text.specs.Lines.{head_line, word_line}
use Rattle.merge.specs.Merge.{tick_in, word_in, merge, merged_part, share_tick}
use Rattle.std.specs.Prelude.{Ok, Err}
use Rattle.merge.specs.Answer.{merging_of, rest_of, rest_after, output_after}
use Rattle.merge.specs.declared.answer.Parts.{Parts}
use Rattle.merge.specs.declared.answer.MergeError.{MergeError}
use Rattle.merge.specs.declared.answer.MergeError.TheVariants as merge
use Rattle.merge.proofs.Answers.{counts}
use Rattle.merged.specs.declared.printed.MergeTextsError.{MergeTextsError}
use Rattle.merged.specs.declared.printed.MergeTextsError.TheVariants.{SameTick}
use Rattle.merge.specs.Interleaved.{Interleaved, nothing, from-ccd, from-infrared}
use Rattle.merge.proofs.Rests.{merged-whole}
use Rattle.merge.proofs.Interleaving.{merge-interleaved}
use Rattle.merged.specs.Text.{entry_lines, merge_text, most_merged, longest, Mergeable, merged_by, text_after}
use Rattle.merged.proofs.LineByLine.{lines-append}

-- the merge has the entries of both lists, and their lines
pub interleaved-count : {xs ys zs : List ℕ} → Interleaved xs ys zs → length zs ≡ length xs + length ys
interleaved-count nothing = omega arith
interleaved-count (from-ccd x h) = let rest = interleaved-count h in omega arith
interleaved-count (from-infrared y h) = let rest = interleaved-count h in omega arith

line-and : (e : ℕ) (es : List ℕ) → length (entry_lines (e ∷ es)) ≡ length (word_line (tick_in e) (word_in e)) + length (entry_lines es)
unfolding entry_lines
line-and e es = length-append (word_line (tick_in e) (word_in e)) (entry_lines es)

interleaved-lines : {xs ys zs : List ℕ} → Interleaved xs ys zs → length (entry_lines zs) ≡ length (entry_lines xs) + length (entry_lines ys)
unfolding entry_lines
interleaved-lines nothing = omega arith
interleaved-lines (from-ccd x {xs = xs} {zs = zs} h) = let rest = interleaved-lines h in omega (arith, line-and x xs, line-and x zs)
interleaved-lines (from-infrared y {ys = ys} {zs = zs} h) = let rest = interleaved-lines h in omega (arith, line-and y ys, line-and y zs)

pub merge-lines : (xs ys : List ℕ) → length (entry_lines (merge xs ys)) ≡ length (entry_lines xs) + length (entry_lines ys)
merge-lines xs ys = interleaved-lines (merge-interleaved xs ys)

-- the merged part and the rest have the entries of both lists
parts-count : (xs ys : List ℕ) → length (merged_part xs ys) + length (rest_of xs ys) ≡ length xs + length ys
parts-count xs ys =
    sym (length-append (merged_part xs ys) (rest_of xs ys)) ∙ ap length (merged-whole xs ys) ∙ interleaved-count (merge-interleaved xs ys)

-- 512 places are enough for the merged part
room : (xs ys : List ℕ) → Mergeable xs ys → ltb most_merged (length (merged_part xs ys)) ≡ false
room xs ys h = let few = h.few in le-ltb most_merged (length (merged_part xs ys)) (omega (arith, parts-count xs ys))

-- lists that share no tick, merged into an array of 512 places: what is handed back, and what the array holds
module _ (xs ys : List ℕ) (h : Mergeable xs ys) (apart : share_tick xs ys ≡ false) where
  module _ {rest : List ℕ} (back : rest ≡ rest_after (merging_of xs ys most_merged) xs ys) where
    rest-is : rest ≡ rest_of xs ys
    unfolding merging_of rest_after
    rest-is = back ∙ rw (h.ccd-rises, h.infrared-rises, apart, room xs ys h)

    counted : length xs + length ys - length rest ≡ length (merged_part xs ys)
    counted = omega (arith, parts-count xs ys, ap length rest-is)

    pub rest-few : length rest ≤ length xs + length ys
    rest-few = omega (arith, parts-count xs ys, ap length rest-is)

    module _ (old : List ℕ) {merged : List ℕ} (after : merged ≡ output_after (merging_of xs ys most_merged) (merged_part xs ys) old) where
      part-is : take (length xs + length ys - length rest) merged ≡ merged_part xs ys
      unfolding merging_of output_after
      part-is =
          rw (after, h.ccd-rises, h.infrared-rises, apart, room xs ys h)
          (take_at (merged_part xs ys) (drop (length (merged_part xs ys)) old) (length xs + length ys - length rest) (sym counted))

      pub part_count : length xs + length ys - length rest ≡ length (take (length xs + length ys - length rest) merged)
      part_count = counted ∙ sym (ap length part-is)

      text-is : merge_text xs ys ≡ head_line ++ entry_lines (take (length xs + length ys - length rest) merged) ++ entry_lines rest
      unfolding merge_text
      text-is =
          rw (part-is, rest-is, ← merged-whole xs ys, lines-append (merged_part xs ys) (rest_of xs ys))
          (sym (append_assoc head_line (entry_lines (merged_part xs ys)) (entry_lines (rest_of xs ys))))

      pub merge-written : {l : List ℕ} {r : ℕ} {k : List ℕ}
          → Written l 0 (head_line ++ entry_lines (take (length xs + length ys - length rest) merged) ++ entry_lines rest) r k → Written l 0 (merge_text xs ys) r k
      merge-written = written_is text-is

-- the answer of `merging` for an array of 512 places
module _ (xs ys : List ℕ) (h : Mergeable xs ys) where
  answer-is : merging_of xs ys most_merged ≡ cond (share_tick xs ys) (Err merge.SameTick) (Ok (counts xs ys))
  unfolding merging_of
  answer-is = rw (h.ccd-rises, h.infrared-rises, room xs ys h)

  pub lists-apart : {p : Parts} → Ok p ≡ merging_of xs ys most_merged → share_tick xs ys ≡ false
  lists-apart {p} is = go (share_tick xs ys) refl (is ∙ answer-is)
    where
      go : (b : Bool) → share_tick xs ys ≡ b → Ok p ≡ cond b (Err merge.SameTick) (Ok (counts xs ys)) → share_tick xs ys ≡ false
      go false e k = e
      go true e k = absurd (cc)

  pub lists-refused : {r : MergeError} → Err r ≡ merging_of xs ys most_merged → Err SameTick ≡ merged_by xs ys
  unfolding merged_by
  lists-refused {r} is = go (share_tick xs ys) (is ∙ answer-is)
    where
      go : (b : Bool) → Err r ≡ cond b (Err merge.SameTick) (Ok (counts xs ys)) → Err SameTick ≡ cond b (Err SameTick) (Ok (length (merge_text xs ys)))
      go true k = refl
      go false k = absurd (cc)

  module _ {old : List ℕ} (long : length old ≡ longest) {k : ℕ} {new : List ℕ} (w : Written old 0 (merge_text xs ys) k new) where
    front : Front old (merge_text xs ys) k new
    front = let fits = h.fits in written-front w (omega arith)

    pub lists-done : share_tick xs ys ≡ false → Ok k ≡ merged_by xs ys
    unfolding merged_by
    lists-done apart = rw (apart, front.long)

    pub lists-after : new ≡ text_after (Ok k) (merge_text xs ys) old
    unfolding text_after
    lists-after = front.bytes ∙ rw front.long
