-- The answer in numbers, and the rest that is handed back: where it starts, and what it is.
-- Assumes nothing.
use mathlib.Core.Path.{◌≡◌, refl, sym, ◌∙◌}
use mathlib.Core.Bool.{Bool, true, false}
use mathlib.Core.List.{List, []}
use mir.Syntax.{w64}
use mir.Val.{Fits}
use Prim.Native.Nat.{ℕ, ◌-◌, ◌*◌, ◌^◌, ◌≤◌, ◌<◌}
use native.Mathlib.Omega.{arith}
use borrow.Author.Tests.{ltb-true, ltb-false}
use lib.Dec.{ltb}
use lib.ListN.{length, take, drop, length-drop}
use lib.Seq.{drop-length, take_all}
use Rattle.words.specs.Kinds.{ccd, infrared}
use Rattle.merge.specs.Answer.{ccd_count, merging_of, rest_after, rest_list, rest_start}
use Rattle.std.specs.Prelude.{Result, Ok, Err}
use Rattle.merge.specs.declared.answer.Parts.{Parts}
use Rattle.merge.specs.declared.answer.MergeError.{MergeError}
use Rattle.merge.proofs.Rests.{rest-ccd, rest-infrared, count-ccd-few, count-infrared-few}
use Rattle.merge.proofs.Answers.{counts, by_answer}

-- a list from a place on, as the code takes it
pub taken-from : (l : List ℕ) (n : ℕ) → take (length l - n) (drop n l) ≡ drop n l
taken-from l n = take_all (length l - n) (drop n l) (rw (length-drop n l) (omega arith))

-- where the rest starts in its list, and what it is
pub record Handed (xs ys : List ℕ) (a : Result Parts MergeError) : Type 0 where
  pub ccd-start : rest_list a xs ≡ ccd → rest_start a xs ys ≤ length xs
  pub ccd-rest : rest_list a xs ≡ ccd → drop (rest_start a xs ys) xs ≡ rest_after a xs ys
  pub infrared-start : (rest_list a xs ≡ ccd → ⊥) → rest_start a xs ys ≤ length ys
  pub infrared-rest : (rest_list a xs ≡ ccd → ⊥) → drop (rest_start a xs ys) ys ≡ rest_after a xs ys

module _ (xs ys : List ℕ) where
  -- of a refusal
  handed-none : (e : MergeError) → Handed xs ys (Err e)
  unfolding rest_list rest_start rest_after
  handed-none e =
      record {
        ccd-start = λ h. absurd (omega (arith, h));
        ccd-rest = λ h. absurd (omega (arith, h));
        infrared-start = λ h. omega arith;
        infrared-rest = λ h. drop-length ys;
      }

  -- of lists that are merged
  handed-done : Handed xs ys (Ok (counts xs ys))
  unfolding rest_list rest_start rest_after
  handed-done = go (ltb (ccd_count xs ys) (length xs)) refl
    where
      go : (b : Bool) → ltb (ccd_count xs ys) (length xs) ≡ b → Handed xs ys (Ok (counts xs ys))
      go true p =
          record {
            ccd-start = λ e. rw p (count-ccd-few xs ys);
            ccd-rest = λ e. rw p (sym (rest-ccd xs ys (ltb-true (ccd_count xs ys) (length xs) p)));
            infrared-start = λ h. absurd (h (rw p));
            infrared-rest = λ h. absurd (h (rw p));
          }
      go false p =
          let other : rest_list (Ok (counts xs ys)) xs ≡ infrared = rw p in
          record {
            ccd-start = λ e. absurd (omega (arith, sym e ∙ other));
            ccd-rest = λ e. absurd (omega (arith, sym e ∙ other));
            infrared-start = λ h. rw p (count-infrared-few xs ys);
            infrared-rest = λ h. rw p (sym (rest-infrared xs ys (ltb-false (ccd_count xs ys) (length xs) p)));
          }

  -- of the answer for two lists
  pub handed : (room : ℕ) → Handed xs ys (merging_of xs ys room)
  handed room = by_answer xs ys room (Handed xs ys) handed-none (λ enough. handed-done)

-- the ways through `merge`: the rest that is handed back
module _ (xs ys : List ℕ) (room : ℕ) where
  pub none-handed : {e : MergeError} → Err e ≡ merging_of xs ys room
      → take (length ys - length ys) (drop (length ys) ys) ≡ rest_after (merging_of xs ys room) xs ys
  unfolding rest_after
  none-handed is = rw (← is) (taken-from ys (length ys) ∙ drop-length ys)

  module _ {p : Parts} (is : Ok p ≡ merging_of xs ys room) where
    its-counts : p ≡ counts xs ys
    its-counts =
        by_answer xs ys room (λ (b : Result Parts MergeError). Ok p ≡ b → p ≡ counts xs ys) (λ e h. absurd (cc)) (λ enough h. cc) is

    pub ccd-handed : p.ccd < length xs → take (length xs - p.ccd) (drop p.ccd xs) ≡ rest_after (merging_of xs ys room) xs ys
    unfolding rest_after
    ccd-handed more = taken-from xs p.ccd ∙ rw (← is, its-counts) (sym (rest-ccd xs ys (rw its-counts at more)))

    pub infrared-within : p.infrared ≤ length ys
    infrared-within = rw its-counts (count-infrared-few xs ys)

    pub infrared-scaled : length ys * 8 < 2 ^ 63 → Fits w64 (p.infrared * 8)
    infrared-scaled few = record { fits = let h = infrared-within in omega arith }

    pub infrared-handed : length xs ≤ p.ccd → take (length ys - p.infrared) (drop p.infrared ys) ≡ rest_after (merging_of xs ys room) xs ys
    unfolding rest_after
    infrared-handed all = taken-from ys p.infrared ∙ rw (← is, its-counts) (sym (rest-infrared xs ys (rw its-counts at all)))
