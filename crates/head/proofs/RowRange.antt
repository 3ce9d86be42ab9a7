-- The range of a state, asked of the row of its numbers: the ways through the code, and that all of it is `in_range`.
-- Assumes nothing.
use mathlib.Core.Path.{◌≡◌, refl, sym, ◌∙◌}
use mathlib.Core.Bool.{Bool, true, false, cond, ◌&&◌}
use mathlib.Core.List.{List, [], ◌∷◌}
use Prim.Native.Nat.{ℕ, zero, suc, ◌+◌, ◌-◌, ◌<◌, ◌≤◌}
use native.Mathlib.Numerals.{add-one}
use native.Mathlib.Omega.{arith}
use borrow.Author.Tests.{leb-true, leb-false, le-leb, lt-leb, eqb-true, eq-eqb, ne_eqb}
use lib.Bits.{bit_or, or_zero_l, or_add_and, and_le_r}
use lib.Dec.{leb, eqb, eqb-suc-zero}
use lib.ListN.{length, get_or, drop, drop_of_length-le}
use lib.Seq.{drop-cons}
use Rattle.words.specs.Kinds as kind
use Rattle.words.specs.Kinds.{rows, least, greatest}
use Rattle.words.proofs.Tests.{and_left, and_right}
use Rattle.head.specs.Limits.{hk_ticks, longest}
use Rattle.head.specs.State.{housekeeping}
use Rattle.head.specs.Range.{in_range}
use Rattle.head.specs.Row.{numbers_of}
use Rattle.head.specs.ByRow.{most, at_most, received, lasting}
use Rattle.head.specs.declared.state.Head.{Head}
use Rattle.head.proofs.Groups.{same}
use Rattle.head.proofs.Bounds.{Bounds, BegunBounds, Working, idle, acquiring, requesting, bounds, in-range, working-most}

-- two numbers joined are 0 where both are
or-none : (a b : ℕ) → eqb (bit_or a b) 0 ≡ (eqb a 0 && eqb b 0)
or-none zero b = rw (or_zero_l b)
or-none (suc a) b =
    rw (eqb-suc-zero a) (ne_eqb (bit_or (suc a) b) 0 (λ e. omega (arith, or_add_and (suc a) b, and_le_r (suc a) b, e)))

-- a number lies above its most by nothing where it is at most that
over_none : (n m : ℕ) → eqb (n - m) 0 ≡ leb n m
over_none n m =
    same (eqb (n - m) 0) (leb n m)
    (λ e. let z = eqb-true (n - m) 0 e in le-leb n m (omega arith))
    (λ e. let l = leb-true n m e in eq-eqb (n - m) 0 (omega arith))

and-three : (a b c : Bool) → (a && (b && c)) ≡ ((a && b) && c)
and-three true b c = refl
and-three false b c = refl

-- the loop of `within`, with i numbers compared and x joined
pub record Within (ns ms : List ℕ) (i x : ℕ) : Type 0 where
  pub some : i ≤ length ms
  pub left : at_most ns ms ≡ (eqb x 0 && at_most (drop i ns) (drop i ms))

pub within_more : {ns ms : List ℕ} {i x d : ℕ} → Within ns ms i x → i < length ns → i < length ms → d ≡ get_or ns i 0 - get_or ms i 0
    → Within ns ms (i + 1) (bit_or x d)
unfolding at_most
within_more {ns} {ms} {i} {x} {d} w h k over =
    record {
      some = omega arith;
      left =
          w.left
          ∙ rw (drop-cons ns i 0 h, drop-cons ms i 0 k, or-none x d, over, over_none (get_or ns i 0) (get_or ms i 0), add-one i)
          (and-three (eqb x 0) (leb (get_or ns i 0) (get_or ms i 0)) (at_most (drop (suc i) ns) (drop (suc i) ms)));
    }

pub within_all : {ns ms : List ℕ} {i x : ℕ} → Within ns ms i x → length ms ≤ i → eqb x 0 ≡ at_most ns ms
unfolding at_most
within_all {ns} {ms} {i} {x} w h = sym (w.left ∙ rw (drop_of_length-le ms h) (all (eqb x 0)))
  where
    all : (b : Bool) → (b && true) ≡ b
    all true = refl
    all false = refl

-- the numbers of a row are at most their limits
abbrev Below : List ℕ → List ℕ → Type 0
Below ns [] = Unit {0}
Below [] (m ∷ ms) = Unit {0}
Below (n ∷ ns) (m ∷ ms) = (n ≤ m) × Below ns ms

below : (ns ms : List ℕ) → at_most ns ms ≡ true → Below ns ms
unfolding at_most
below ns [] h = tt
below [] (m ∷ ms) h = tt
below (n ∷ ns) (m ∷ ms) h =
    (leb-true n m (and_left (leb n m) (at_most ns ms) h), below ns ms (and_right (leb n m) (at_most ns ms) h))

below-back : (ns ms : List ℕ) → Below ns ms → at_most ns ms ≡ true
unfolding at_most
below-back ns [] h = refl
below-back [] (m ∷ ms) h = refl
below-back (n ∷ ns) (m ∷ ms) h = rw (le-leb n m h.0) (below-back ns ms h.1)

-- a place of a begun set, whose data are at most m
module _ (count n v m : ℕ) where
  place-most : leb v (cond (leb n count) m 0) ≡ true → v ≤ m
  place-most h = go (leb n count) (leb-true v (cond (leb n count) m 0) h)
    where
      go : (b : Bool) → v ≤ cond b m 0 → v ≤ m
      go true l = l
      go false l = omega arith

  place_none : leb v (cond (leb n count) m 0) ≡ true → count < n → v ≡ 0
  place_none h l = let z = leb-true v 0 (rw (lt-leb n count l) at h) in omega arith

  place_of : v ≤ m → (count < n → v ≡ 0) → leb v (cond (leb n count) m 0) ≡ true
  place_of l none = go (leb n count) refl
    where
      go : (b : Bool) → leb n count ≡ b → leb v (cond b m 0) ≡ true
      go true e = le-leb v m l
      go false e = let z = none (leb-false n count e) in le-leb v 0 (omega arith)

-- a task that lasts
lasts : (t n : ℕ) → t ≤ housekeeping → n ≤ longest → lasting t n ≡ true → Working t n
unfolding lasting
lasts zero n h l e = rw (eqb-true n 0 e) idle
lasts (suc zero) n h l e = acquiring n (leb-true 1 n e) l
lasts (suc (suc zero)) n h l e =
    requesting n (leb-true 1 n (and_left (leb 1 n) (leb n hk_ticks) e)) (leb-true n hk_ticks (and_right (leb 1 n) (leb n hk_ticks) e))
lasts (suc (suc (suc t))) n h l e = absurd (omega arith)

lasts-back : (t n : ℕ) → Working t n → lasting t n ≡ true
unfolding lasting
lasts-back t n idle = refl
lasts-back t n (acquiring m p q) = le-leb 1 n p
lasts-back t n (requesting m p q) = rw (le-leb 1 n p, le-leb n hk_ticks q)

task-most : (t n : ℕ) → Working t n → t ≤ housekeeping
task-most t n idle = omega arith
task-most t n (acquiring m p q) = omega arith
task-most t n (requesting m p q) = omega arith

module _ (s : Head) where
  abbrev set : Bool
  set = received s.begun.count s.begun.sinm s.begun.sinl s.begun.cosm

  set-bounds : s.begun.count ≤ 3 → set ≡ true → BegunBounds s.begun
  unfolding received greatest rows
  set-bounds l h =
      let g = s.begun in
      let a = leb g.sinm (cond (leb 1 g.count) 31 0) in
      let b = leb g.sinl (cond (leb 2 g.count) 255 0) in
      let c = leb g.cosm (cond (leb 3 g.count) 15 0) in
      let ab = and_left (a && b) c h in
      record {
        count = l;
        sinm = place-most g.count 1 g.sinm 31 (and_left a b ab);
        sinl = place-most g.count 2 g.sinl 255 (and_right a b ab);
        cosm = place-most g.count 3 g.cosm 15 (and_right (a && b) c h);
        no_sinm = place_none g.count 1 g.sinm 31 (and_left a b ab);
        no_sinl = place_none g.count 2 g.sinl 255 (and_right a b ab);
        no_cosm = place_none g.count 3 g.cosm 15 (and_right (a && b) c h);
      }

  set_back : BegunBounds s.begun → set ≡ true
  unfolding received greatest rows
  set_back h =
      let g = s.begun in
      rw (
        place_of g.count 1 g.sinm 31 h.sinm h.no_sinm,
        place_of g.count 2 g.sinl 255 h.sinl h.no_sinl,
        place_of g.count 3 g.cosm 15 h.cosm h.no_cosm,
      )

  abbrev asked : Bool
  asked = at_most (numbers_of s) most && leb (least kind.ccd_delay) s.settings.ccddelay && set && lasting s.work.task s.work.busy

  to-bounds : asked ≡ true → Bounds s
  unfolding numbers_of most greatest least rows
  to-bounds h =
      let a = at_most (numbers_of s) most in
      let b = leb (least kind.ccd_delay) s.settings.ccddelay in
      let d = lasting s.work.task s.work.busy in
      let abc = and_left (a && b && set) d h in
      let ab = and_left (a && b) set abc in
      let e = below (numbers_of s) most (and_left a b ab) in
      let least = leb-true 5 s.settings.ccddelay (and_right a b ab) in
      let w = lasts s.work.task s.work.busy (omega arith) (omega arith) (and_right (a && b && set) d h) in
      record {
        settings = omega arith;
        latches = omega arith;
        flags = omega arith;
        motion = omega arith;
        begun = set-bounds (omega arith) (and_right (a && b) set abc);
        work = w;
        busy = working-most s.work.task s.work.busy w;
      }

  from-bounds : Bounds s → asked ≡ true
  unfolding numbers_of most greatest least rows
  from-bounds h =
      let t = task-most s.work.task s.work.busy h.work in
      rw (below-back (numbers_of s) most (omega arith), le-leb 5 s.settings.ccddelay h.settings.least_ccddelay, set_back h.begun)
      (lasts-back s.work.task s.work.busy h.work)

  pub asked-range : asked ≡ in_range s
  asked-range = same asked (in_range s) (λ e. in-range s (to-bounds e)) (λ e. from-bounds (bounds s e))

-- `in_range`: row is the state's, and w, r and l are what was found of it
pub range-by : (s : Head) (row : List ℕ) → row ≡ numbers_of s → (w : Bool) → w ≡ at_most row most
    → (r : Bool) → r ≡ received (get_or row 31 0) (get_or row 32 0) (get_or row 33 0) (get_or row 34 0)
    → (l : Bool) → l ≡ lasting (get_or row 27 0) (get_or row 28 0)
    → (w && leb (least kind.ccd_delay) (get_or row 6 0) && r && l) ≡ in_range s
unfolding numbers_of
range-by s row is w within r set l left = rw (within, set, left, is) (asked-range s)
