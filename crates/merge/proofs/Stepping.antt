-- A turn by places: the ways through the code that finds it, and what it leaves of the two lists.
-- Assumes nothing.
use mathlib.Core.Path.{◌≡◌, sym, ap, ◌∙◌}
use mathlib.Core.Bool.{false}
use mathlib.Core.List.{List, [], ◌∷◌}
use Prim.Native.Nat.{ℕ, suc, ◌+◌, ◌-◌, ◌≤◌, ◌<◌}
use native.Mathlib.Numerals.{add-one}
use native.Mathlib.Omega.{arith}
use lib.Dec.{eqb}
use lib.ListN.{length, get_or, drop, drop_of_length-le}
use lib.Seq.{drop-cons}
use Rattle.std.specs.Prelude.{Option, Some, None}
use Rattle.merge.specs.ByPlaces.{tick_at, parts_of, Turned, ccd-next, infrared-next, ccd-over, infrared-over}
use Rattle.merge.specs.declared.turns.Given.{Given}
use Rattle.merge.proofs.ByTick.{no-ccd, no-infrared, Stopped, stopped}
use Rattle.merge.proofs.Sharing.{Moved, moved-ccd, moved-infrared}

-- the two ways to a turn that gives an entry
module _ (xs ys : List ℕ) (i j : ℕ) {a b : ℕ} (first : a ≡ tick_at xs i) (second : b ≡ tick_at ys j) (more : i < length xs)
    (more' : j < length ys) where
  pub turn-ccd : a < b → Turned xs ys i j (Some (record { entry = get_or xs i 0; after = parts_of (i + 1) j; same = false }))
  turn-ccd less = ccd-next more more' (rw (← first, ← second) less)

  pub turn-infrared : b ≤ a → Turned xs ys i j (Some (record { entry = get_or ys j 0; after = parts_of i (j + 1); same = eqb a b }))
  turn-infrared less = rw (first, second) (infrared-next more more' (rw (← first, ← second) less))

-- a list from a place on
from_place : (l : List ℕ) (i : ℕ) → i < length l → drop i l ≡ get_or l i 0 ∷ drop (i + 1) l
from_place l i h = drop-cons l i 0 h ∙ ap (λ (k : ℕ). get_or l i 0 ∷ drop k l) (sym (add-one i))

-- what a turn tells of the places
pub record Next (xs ys : List ℕ) (i j : ℕ) (g : Given) : Type 0 where
  pub moved : Moved (drop i xs) (drop j ys) g.entry (drop g.after.ccd xs) (drop g.after.infrared ys) g.same
  pub place : g.after.ccd + g.after.infrared ≡ suc (i + j)
  pub ccd-few : g.after.ccd ≤ length xs
  pub infrared-few : g.after.infrared ≤ length ys
  pub less : length xs - g.after.ccd + (length ys - g.after.infrared) < length xs - i + (length ys - j)

turned-next : {xs ys : List ℕ} {i j : ℕ} {g : Given} → Turned xs ys i j (Some g) → Next xs ys i j g
turned-next {xs} {ys} {i} {j} (ccd-next p q l) =
    record {
      moved = rw (from_place xs i p, from_place ys j q) (moved-ccd (get_or xs i 0) (get_or ys j 0) (drop (i + 1) xs) (drop (j + 1) ys) l);
      place = omega arith;
      ccd-few = omega arith;
      infrared-few = omega arith;
      less = omega arith;
    }
turned-next {xs} {ys} {i} {j} (infrared-next p q l) =
    record {
      moved = rw (from_place xs i p, from_place ys j q) (moved-infrared (get_or xs i 0) (get_or ys j 0) (drop (i + 1) xs) (drop (j + 1) ys) l);
      place = omega arith;
      ccd-few = omega arith;
      infrared-few = omega arith;
      less = omega arith;
    }

turned-over : {xs ys : List ℕ} {i j : ℕ} → Turned xs ys i j None → Stopped (drop i xs) (drop j ys)
turned-over {xs} {ys} {i} {j} (ccd-over h) = rw (drop_of_length-le xs h) (stopped no-ccd)
turned-over {xs} {ys} {i} {j} (infrared-over h) = rw (drop_of_length-le ys h) (go (drop i xs))
  where
    go : (l : List ℕ) → Stopped l []
    go [] = stopped no-ccd
    go (x ∷ l) = stopped no-infrared

-- the same of an answer that is known
module _ {xs ys : List ℕ} {i j : ℕ} {r : Option Given} (turned : Turned xs ys i j r) where
  pub next : {g : Given} → r ≡ Some g → Next xs ys i j g
  next is = turned-next (rw is at turned)

  pub over : r ≡ None → Stopped (drop i xs) (drop j ys)
  over is = turned-over (rw is at turned)
