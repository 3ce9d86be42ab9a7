-- The first values of a list copied into another, one after another: i of them have been.
-- Assumes nothing.
use mathlib.Core.Path.{◌≡◌, refl, sym, ap, ◌∙◌}
use mathlib.Core.List.{List}
use Prim.Native.Nat.{ℕ, ◌+◌, ◌≤◌, ◌<◌}
use native.Mathlib.Nat.{zero-add}
use native.Mathlib.Numerals.{add-one}
use native.Mathlib.Omega.{arith}
use lib.ListN.{length, get_or, set, length-set}
use lib.Seq.{paste, paste-zero, paste-suc}

pub record Copying (old own : List ℕ) (count : ℕ) (new : List ℕ) (i : ℕ) : Type 0 where
  pub within : i ≤ count
  pub room : count ≤ length old
  pub enough : count ≤ length own
  pub long : length new ≡ length old
  pub same : new ≡ paste old 0 own i

module _ {old own : List ℕ} {count : ℕ} where
  pub copying-first : count ≤ length old → count ≤ length own → Copying old own count old 0
  copying-first room enough =
      record { within = omega arith; room = room; enough = enough; long = refl; same = paste-zero old 0 own }

  module _ {new : List ℕ} {i : ℕ} (h : Copying old own count new i) where
    pub copying-next : i < count → Copying old own count (set new i (get_or own i 0)) (i + 1)
    copying-next more =
        let room = h.room in
        let enough = h.enough in
        record {
          within = omega arith;
          room = room;
          enough = enough;
          long = length-set new i (get_or own i 0) ∙ h.long;
          same =
              rw (h.same, add-one i)
              (ap (λ (k : ℕ). set (paste old 0 own i) k (get_or own i 0)) (sym (zero-add i))
              ∙ paste-suc old 0 own i 0 (omega arith) (omega arith));
        }

    pub copied : count ≤ i → new ≡ paste old 0 own count
    copied all =
        let within = h.within in
        let e : i ≡ count = omega arith in
        rw e at h.same
