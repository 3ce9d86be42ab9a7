-- The ticks of a list of entries: each at its entry's place, and rising where each entry and the next are.
-- Assumes nothing.
use mathlib.Core.Path.{◌≡◌, refl, ap}
use mathlib.Core.Bool.{Bool, true, false, ◌&&◌}
use mathlib.Core.List.{List, [], ◌∷◌}
use Prim.Native.Nat.{ℕ, zero, suc, ◌+◌, ◌<◌}
use native.Mathlib.Nat.{suc-add}
use native.Mathlib.Omega.{arith}
use lib.Dec.{ltb}
use lib.ListN.{length, get_or}
use Rattle.std.specs.List.{IsAllAdjacentAnswer}
use Rattle.words.proofs.Tests.{and_right}
use Rattle.timed.specs.List.{rising}
use Rattle.merge.specs.Merge.{tick_in, ticks_in}
use Rattle.merge.specs.ByPlaces.{tick_at}

-- as many ticks as entries
pub ticks-long : (l : List ℕ) → length (ticks_in l) ≡ length l
unfolding ticks_in
ticks-long [] = refl
ticks-long (e ∷ l) = ap suc (ticks-long l)

-- each at its entry's place
pub tick-at : (l : List ℕ) (i : ℕ) → get_or (ticks_in l) i 0 ≡ tick_at l i
unfolding ticks_in
tick-at [] i = refl
tick-at (e ∷ l) zero = refl
tick-at (e ∷ l) (suc i) = tick-at l i

-- the entries at two places one after another rise
abbrev RiseAt : List ℕ → ℕ → ℕ → Bool → Type 0
RiseAt l k d r = r ≡ ltb (tick_in (get_or l k d)) (tick_in (get_or l (k + 1) d))

rise-all : (l : List ℕ) → ((k d : ℕ) → k + 1 < length l → RiseAt l k d true) → true ≡ rising (ticks_in l)
unfolding rising ticks_in
rise-all [] h = refl
rise-all (x ∷ []) h = refl
rise-all (x ∷ (y ∷ l)) h =
    let first : true ≡ ltb (tick_in x) (tick_in y) = h 0 0 (omega arith) in
    rw (← first) (rise-all (y ∷ l) (λ k d more. rw suc-add at (h (suc k) d (omega arith))))

rise-not : (l : List ℕ) (k : ℕ) → k + 1 < length l → RiseAt l k 0 false → false ≡ rising (ticks_in l)
unfolding rising ticks_in
rise-not [] k more h = absurd (omega arith)
rise-not (x ∷ []) k more h = absurd (omega arith)
rise-not (x ∷ (y ∷ l)) zero more h = rw (← h)
rise-not (x ∷ (y ∷ l)) (suc k) more h = go (ltb (tick_in x) (tick_in y)) (rise-not (y ∷ l) k (omega arith) (rw suc-add at h))
  where
    go : (b : Bool) → false ≡ rising (ticks_in (y ∷ l)) → false ≡ (b && rising (ticks_in (y ∷ l)))
    go true later = later
    go false later = refl

pub rising-by-entries : (l : List ℕ) (r : Bool) → IsAllAdjacentAnswer (λ x y b. b ≡ ltb (tick_in x) (tick_in y)) l r → r ≡ rising (ticks_in l)
rising-by-entries l true h = rise-all l h
rising-by-entries l false h = rise-not l h.0 h.1 (h.2 0)

-- what follows a tick rises too
pub rising-tail : (t : ℕ) (ts : List ℕ) → rising (t ∷ ts) ≡ true → rising ts ≡ true
unfolding rising
rising-tail t [] h = refl
rising-tail t (u ∷ ts) h = and_right (ltb t u) (rising (u ∷ ts)) h
