-- The ways through the code that judges two lists and the room of the output, and what its answer tells.
-- Assumes nothing.
use mathlib.Core.Path.{◌≡◌, refl, ap, ◌∙◌}
use mathlib.Core.Bool.{Bool, true, false, cond, not, ◌&&◌}
use mathlib.Core.List.{List}
use mir.Syntax.{w64}
use mir.Val.{Fits}
use Prim.Native.Nat.{ℕ, ◌+◌, ◌*◌, ◌^◌, ◌≤◌, ◌<◌}
use native.Mathlib.Omega.{arith}
use borrow.Author.Tests.{ltb-false}
use lib.Dec.{ltb}
use lib.ListN.{length}
use Rattle.timed.specs.List.{rising}
use Rattle.merge.specs.Merge.{ticks_in, merged_part, share_tick}
use Rattle.merge.specs.Answer.{ccd_count, infrared_count, merging_of, merging_number, merge_number, merged_count}
use Rattle.std.specs.Prelude.{Result, Ok, Err}
use Rattle.merge.specs.ByPlaces.{parts_of, walk_of}
use Rattle.merge.specs.declared.answer.Parts.{Parts}
use Rattle.merge.specs.declared.answer.MergeError.{MergeError}
use Rattle.merge.specs.declared.answer.MergeError.TheVariants.{NotRising, SameTick, TooShort}
use Rattle.merge.specs.declared.turns.Walked.{Walked}
use Rattle.merge.proofs.Rests.{split, count-ccd-few, count-infrared-few}

-- as many entries as both counts tell
pub part_long : (xs ys : List ℕ) → length (merged_part xs ys) ≡ ccd_count xs ys + infrared_count xs ys
part_long xs ys = (split xs ys).long

-- their number fits: no list has more than 2 ^ 60 entries
pub walked-fits : (xs ys : List ℕ) {w : Walked} → w ≡ walk_of xs ys → length xs * 8 < 2 ^ 63 → length ys * 8 < 2 ^ 63
    → Fits w64 (w.parts.ccd + w.parts.infrared)
unfolding walk_of
walked-fits xs ys is few few' = rw is (record { fits = omega (arith, count-ccd-few xs ys, count-infrared-few xs ys) })

abbrev pub counts : List ℕ → List ℕ → Parts
counts xs ys = parts_of (ccd_count xs ys) (infrared_count xs ys)

-- the answer is a refusal, or the counts of the merged part
module _ (xs ys : List ℕ) (room : ℕ) where
  -- a claim on the answer holds where it holds of each refusal, and where no test refuses
  pub by_answer : (P : Result Parts MergeError → Type 0) → ((e : MergeError) → P (Err e)) → (length (merged_part xs ys) ≤ room → P (Ok (counts xs ys)))
      → P (merging_of xs ys room)
  unfolding merging_of
  by_answer P refused done =
      go (not (rising (ticks_in xs) && rising (ticks_in ys))) (share_tick xs ys) (ltb room (length (merged_part xs ys))) refl
    where
      go : (a b c : Bool) → ltb room (length (merged_part xs ys)) ≡ c
          → P (cond a (Err NotRising) (cond b (Err SameTick) (cond c (Err TooShort) (Ok (counts xs ys)))))
      go true b c e = refused NotRising
      go false true c e = refused SameTick
      go false false true e = refused TooShort
      go false false false e = done (ltb-false room (length (merged_part xs ys)) e)

  -- its number is the one that the lists give
  pub merging-number : {r : Result Parts MergeError} → r ≡ merging_of xs ys room → merging_number r ≡ merge_number xs ys room
  unfolding merging_of merge_number
  merging-number is =
      ap merging_number is
      ∙ go (not (rising (ticks_in xs) && rising (ticks_in ys))) (share_tick xs ys) (ltb room (length (merged_part xs ys)))
    where
      go : (a b c : Bool)
          → merging_number (cond a (Err NotRising) (cond b (Err SameTick) (cond c (Err TooShort) (Ok (counts xs ys)))))
          ≡ cond a 52 (cond b 53 (cond c 54 0))
      go true b c = refl
      go false true c = refl
      go false false true = refl
      go false false false = refl

-- the count is at most the room
pub count-few : (xs ys : List ℕ) (room : ℕ) {a : Result Parts MergeError} → a ≡ merging_of xs ys room → merged_count a ≤ room
unfolding merged_count
count-few xs ys room is =
    rw is
    (by_answer xs ys room (λ (b : Result Parts MergeError). merged_count b ≤ room) (λ e. omega arith)
    (λ enough. let long = (split xs ys).long in omega arith))

-- there is room for a merged part that is told
pub part-room : (xs ys : List ℕ) (room : ℕ) {p : Parts} → Ok p ≡ merging_of xs ys room → length (merged_part xs ys) ≤ room
part-room xs ys room {p} is =
    by_answer xs ys room (λ (b : Result Parts MergeError). Ok p ≡ b → length (merged_part xs ys) ≤ room) (λ e h. absurd (cc)) (λ enough h. enough) is
