-- The merged part written into the first places of a list, turn by turn.
-- Assumes nothing.
use mathlib.Core.Path.{◌≡◌, refl, sym, ap, ◌∙◌}
use mathlib.Core.List.{List, ◌++◌}
use Prim.Native.Nat.{ℕ, ◌+◌, ◌≤◌, ◌<◌}
use native.Mathlib.Nat.{zero-add}
use native.Mathlib.Omega.{arith}
use lib.ListN.{length, drop, set, length-set}
use lib.Seq.{sets, sets-eq}
use Rattle.merge.specs.Merge.{merged_part}
use Rattle.std.specs.Prelude.{Option, Some, None}
use Rattle.merge.specs.ByPlaces.{parts_of, Turned}
use Rattle.merge.specs.declared.answer.Parts.{Parts}
use Rattle.merge.specs.declared.turns.Given.{Given}
use Rattle.merge.proofs.ByTick.{step}
use Rattle.merge.proofs.Stepping.{next, over}

-- so much of the two lists is written, and there is room for the others
pub record Writing (old xs ys new : List ℕ) (at : Parts) : Type 0 where
  pub fits : length (merged_part xs ys) ≤ length old
  pub room : at.ccd + at.infrared + length (merged_part (drop at.ccd xs) (drop at.infrared ys)) ≤ length old
  pub long : length new ≡ length old
  pub written : sets old 0 (merged_part xs ys) ≡ sets new (at.ccd + at.infrared) (merged_part (drop at.ccd xs) (drop at.infrared ys))

-- at first nothing is
pub writing-first : {old xs ys : List ℕ} → length (merged_part xs ys) ≤ length old → Writing old xs ys old (parts_of 0 0)
writing-first h = record { fits = h; room = omega arith; long = refl; written = refl }

module _ {old xs ys new : List ℕ} {at : Parts} (h : Writing old xs ys new at) {r : Option Given} (turned : Turned xs ys at.ccd at.infrared r) where
  module _ {g : Given} (is : r ≡ Some g) where
    -- the next entry has a place
    pub writing-place : at.ccd + at.infrared < length new
    writing-place =
        let part = ap length (step (next turned is).moved.taken).part in
        let room = h.room in
        let long = h.long in
        omega arith

    -- it is written
    pub writing-next : Writing old xs ys (set new (at.ccd + at.infrared) g.entry) g.after
    writing-next =
        let t = next turned is in
        let part = (step t.moved.taken).part in
        let longer = ap length part in
        let place = t.place in
        let room = h.room in
        record {
          fits = h.fits;
          room = omega arith;
          long = length-set new (at.ccd + at.infrared) g.entry ∙ h.long;
          written = h.written ∙ ap (sets new (at.ccd + at.infrared)) part ∙ rw place;
        }

  -- all is written where a list has run out
  pub writing-over : r ≡ None → new ≡ merged_part xs ys ++ drop (length (merged_part xs ys)) old
  writing-over is =
      let s = over turned is in
      let part = merged_part xs ys in
      let fits = h.fits in
      sym (h.written ∙ ap (sets new (at.ccd + at.infrared)) s.part) ∙ sets-eq part old 0 (omega arith) ∙ rw (zero-add (length part))
