-- The way through two rising lists to the end of one: what is left of each, and whether some tick stood in both.
-- Assumes nothing.
use mathlib.Core.Path.{◌≡◌, refl, sym, ap, ◌∙◌}
use mathlib.Core.Bool.{Bool, true, false, ◌||◌}
use mathlib.Core.List.{List}
use Prim.Native.Nat.{ℕ, ◌-◌, ◌≤◌}
use native.Mathlib.Omega.{arith}
use lib.ListN.{length, drop, length-drop}
use Rattle.timed.specs.List.{rising}
use Rattle.merge.specs.Merge.{ticks_in, ccd_rest, infrared_rest, share_tick}
use Rattle.merge.specs.Answer.{ccd_count, infrared_count}
use Rattle.std.specs.Prelude.{Option, Some, None}
use Rattle.merge.specs.ByPlaces.{parts_of, Turned, walk_of}
use Rattle.merge.specs.declared.answer.Parts.{Parts}
use Rattle.merge.specs.declared.turns.Given.{Given}
use Rattle.merge.proofs.ByTick.{step}
use Rattle.merge.proofs.Sharing.{or_assoc}
use Rattle.merge.proofs.Stepping.{next, over}

-- so much of the two lists is merged on the way
pub record Way (xs ys : List ℕ) (at : Parts) (same : Bool) : Type 0 where
  pub ccd-few : at.ccd ≤ length xs
  pub infrared-few : at.infrared ≤ length ys
  pub ccd : ccd_rest xs ys ≡ ccd_rest (drop at.ccd xs) (drop at.infrared ys)
  pub infrared : infrared_rest xs ys ≡ infrared_rest (drop at.ccd xs) (drop at.infrared ys)
  pub ccd-rises : rising (ticks_in (drop at.ccd xs)) ≡ true
  pub infrared-rises : rising (ticks_in (drop at.infrared ys)) ≡ true
  pub share : share_tick xs ys ≡ (same || share_tick (drop at.ccd xs) (drop at.infrared ys))

-- it starts at the two first entries
pub way-first : {xs ys : List ℕ} → rising (ticks_in xs) ≡ true → rising (ticks_in ys) ≡ true → Way xs ys (parts_of 0 0) false
way-first rises rises' =
    record {
      ccd-few = omega arith;
      infrared-few = omega arith;
      ccd = refl;
      infrared = refl;
      ccd-rises = rises;
      infrared-rises = rises';
      share = refl;
    }

module _ {xs ys : List ℕ} {at : Parts} {same : Bool} (w : Way xs ys at same) {r : Option Given} (turned : Turned xs ys at.ccd at.infrared r) where
  -- a turn
  pub way_next : {g : Given} → r ≡ Some g → Way xs ys g.after (same || g.same)
  way_next {g} is =
      let t = next turned is in
      let turn = t.moved in
      let to = step turn.taken in
      record {
        ccd-few = t.ccd-few;
        infrared-few = t.infrared-few;
        ccd = w.ccd ∙ to.ccd;
        infrared = w.infrared ∙ to.infrared;
        ccd-rises = turn.ccd-rises w.ccd-rises;
        infrared-rises = turn.infrared-rises w.infrared-rises;
        share =
            w.share ∙ ap (λ (b : Bool). same || b) (turn.share w.ccd-rises w.infrared-rises)
            ∙ sym (or_assoc same g.same (share_tick (drop g.after.ccd xs) (drop g.after.infrared ys)));
      }

  or-false : (b : Bool) → b || false ≡ b
  or-false true = refl
  or-false false = refl

  -- the end of a list
  pub way-over : r ≡ None → record { parts = at; same = same } ≡ walk_of xs ys
  unfolding walk_of ccd_count infrared_count
  way-over is =
      let s = over turned is in
      let few = w.ccd-few in
      let few' = w.infrared-few in
      let n : length xs - length (ccd_rest xs ys) ≡ at.ccd = rw (w.ccd, s.ccd, length-drop at.ccd xs) (omega arith) in
      let m : length ys - length (infrared_rest xs ys) ≡ at.infrared = rw (w.infrared, s.infrared, length-drop at.infrared ys) (omega arith) in
      rw (n, m, w.share, s.share, or-false same)
