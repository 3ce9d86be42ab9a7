-- The requests that have a word, by the first of them and the first after it.
-- Assumes nothing.
use mathlib.Core.Path.{◌≡◌, refl}
use mathlib.Core.Bool.{Bool, true, false, cond}
use mathlib.Core.List.{List, [], ◌∷◌}
use Prim.Native.Nat.{ℕ, suc, ◌+◌, ◌-◌, ◌<◌, ◌≤◌}
use native.Mathlib.Omega.{arith}
use lib.Dec.{eqb}
use lib.ListN.{length, drop}
use Rattle.std.proofs.lemmas.Bool.{or_parts}
use Rattle.requests.specs.declared.table.Row.{Row}
use Rattle.requests.specs.Codec.{is_word_of, having_from, is_known}
use Rattle.requests.specs.Rows.{first_from}

module _ (c v : ℕ) where
  first_above : (rs : List Row) (k : ℕ) → k ≤ first_from rs k c v
  unfolding first_from
  first_above [] k = omega arith
  first_above (r ∷ rs) k = go (is_word_of r c v) (first_above rs (suc k))
    where
      go : (b : Bool) → suc k ≤ first_from rs (suc k) c v → k ≤ cond b k (first_from rs (suc k) c v)
      go true h = omega arith
      go false h = omega arith

  pub having-none : (rs : List Row) (k : ℕ) → k + length rs ≤ first_from rs k c v → having_from rs k c v ≡ []
  unfolding first_from having_from
  having-none [] k h = refl
  having-none (r ∷ rs) k h = go (is_word_of r c v) (having-none rs (suc k)) h
    where
      go : (b : Bool) → (suc k + length rs ≤ first_from rs (suc k) c v → having_from rs (suc k) c v ≡ [])
          → k + suc (length rs) ≤ cond b k (first_from rs (suc k) c v)
          → cond b (k ∷ having_from rs (suc k) c v) (having_from rs (suc k) c v) ≡ []
      go true later h = absurd (omega arith)
      go false later h = later (omega arith)

  -- those after the first of these rows that has the word
  abbrev after : List Row → ℕ → ℕ → List ℕ
  after rs k f = having_from (drop (suc f - k) rs) (suc f) c v

  pub having-first : (rs : List Row) (k : ℕ) → first_from rs k c v < k + length rs
      → having_from rs k c v ≡ first_from rs k c v ∷ after rs k (first_from rs k c v)
  unfolding first_from having_from
  having-first [] k h = absurd (omega arith)
  having-first (r ∷ rs) k h = go (is_word_of r c v) (first_above rs (suc k)) (having-first rs (suc k)) h
    where
      next : ℕ
      next = first_from rs (suc k) c v

      go : (b : Bool) → suc k ≤ next → (next < suc k + length rs → having_from rs (suc k) c v ≡ next ∷ after rs (suc k) next)
          → cond b k next < k + suc (length rs)
          → cond b (k ∷ having_from rs (suc k) c v) (having_from rs (suc k) c v) ≡ cond b k next ∷ after (r ∷ rs) k (cond b k next)
      go true above later h = let one : suc k - k ≡ 1 = omega arith in rw one
      go false above later h = let less : suc next - k ≡ suc (suc next - suc k) = omega arith in rw less (later (omega arith))

  -- no request has a word whose code is no row's
  pub having-unknown : (rs : List Row) (k : ℕ) → is_known rs c ≡ false → having_from rs k c v ≡ []
  unfolding is_known having_from is_word_of
  having-unknown [] k h = refl
  having-unknown (r ∷ rs) k h =
      rw (or_parts (eqb r.code c) (is_known rs c) h).0 (having-unknown rs (suc k) (or_parts (eqb r.code c) (is_known rs c) h).1)
