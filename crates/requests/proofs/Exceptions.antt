-- The exceptions are exactly the pairs of requests that have a word in common. antt compares, for every pair, what is listed with the
-- values that both rows allow.
-- Assumes nothing.
use mathlib.Core.Path.{◌≡◌, refl, sym}
use mathlib.Core.Bool.{Bool, true, false, cond, ◌&&◌}
use Prim.Native.Nat.{ℕ, ◌+◌, ◌*◌, ◌<◌, ◌≤◌, min, max}
use native.Mathlib.Omega.{arith}
use borrow.Author.Tests.{eqb-true, leb-true, ltb-true, eq-eqb, le-leb}
use lib.Dec.{T, eqb, leb, ltb}
use Rattle.std.proofs.lemmas.Bool.{and_parts}
use Rattle.words.proofs.Tests.{passes}
use Rattle.requests.specs.Parameters.{composed, mode_fields, lamp_fields, cover_fields}
use Rattle.requests.specs.declared.table.Row.{Row}
use Rattle.requests.specs.Requests.{rows, requests, row_of, allows}
use Rattle.requests.specs.Codec.{word_of}
use Rattle.requests.specs.Shared.{Exception, exceptions, rises_from, listed_for, is_listed, share_word}
use Rattle.requests.proofs.Every.{every, every-at}
use Rattle.requests.proofs.Encoding.{value-small}

pub exceptions-rise : rises_from 0 exceptions ≡ true
unfolding rises_from exceptions
exceptions-rise = refl

both_ways : (a b : Bool) → (a ≡ true → b ≡ true) → (b ≡ true → a ≡ true) → a ≡ b
both_ways true b f g = sym (f refl)
both_ways false true f g = g refl
both_ways false false f g = refl

-- what an allowed value says
allowed-within : (r : Row) (v : ℕ) → allows r v ≡ true → (r.least ≤ v) × (v ≤ r.most)
unfolding allows
allowed-within r v e =
    (leb-true r.least v (and_parts (leb r.least v) (leb v r.most) e).0, leb-true v r.most (and_parts (leb r.least v) (leb v r.most) e).1)

listed : ℕ → ℕ → Exception
listed k j = listed_for exceptions k j

lowest : ℕ → ℕ → ℕ
lowest k j = max (row_of k).least (row_of j).least

highest : ℕ → ℕ → ℕ
highest k j = min (row_of k).most (row_of j).most

meet : ℕ → ℕ → Bool
meet k j = eqb (row_of k).code (row_of j).code && leb (lowest k j) (highest k j)

matches : ℕ → ℕ → Bool
matches k j =
    cond (meet k j) (eqb (listed k j).least (lowest k j) && eqb (listed k j).most (highest k j)) (ltb (listed k j).most (listed k j).least)

all-match : T (every (λ j. every (λ k. matches k j) j) requests)
unfolding matches meet highest lowest listed listed_for exceptions rows composed mode_fields lamp_fields cover_fields
all-match = tt

module _ (k j : ℕ) (order : k < j) (known : j < requests) where
  match-at : matches k j ≡ true
  match-at =
      let pairs = every-at (λ j. every (λ k. matches k j) j) requests all-match j known in
      every-at (λ k. matches k j) j (passes (every (λ k. matches k j) j) pairs) k order

  -- where the rows meet, what is listed is where they do
  met : meet k j ≡ true → ((listed k j).least ≡ lowest k j) × ((listed k j).most ≡ highest k j)
  unfolding matches
  met m =
      let both = rw m at match-at in (
        eqb-true (listed k j).least (lowest k j) (and_parts (eqb (listed k j).least (lowest k j)) (eqb (listed k j).most (highest k j)) both).0,
        eqb-true (listed k j).most (highest k j) (and_parts (eqb (listed k j).least (lowest k j)) (eqb (listed k j).most (highest k j)) both).1,
      )

  apart : meet k j ≡ false → (listed k j).most < (listed k j).least
  unfolding matches
  apart m = ltb-true (listed k j).most (listed k j).least (rw m at match-at)

  -- where the rows meet, their codes are one
  met-code : meet k j ≡ true → (row_of k).code ≡ (row_of j).code
  unfolding meet
  met-code m = eqb-true (row_of k).code (row_of j).code (and_parts (eqb (row_of k).code (row_of j).code) (leb (lowest k j) (highest k j)) m).0

  -- a listed value is one that both rows allow, and gives one word
  pub listed-share : (v : ℕ) → is_listed k j v ≡ true → share_word k v j v ≡ true
  unfolding is_listed share_word allows word_of listed lowest highest
  listed-share v is = go (meet k j) refl
    where
      low : (listed k j).least ≤ v
      low = leb-true (listed k j).least v (and_parts (leb (listed k j).least v) (leb v (listed k j).most) is).0

      high : v ≤ (listed k j).most
      high = leb-true v (listed k j).most (and_parts (leb (listed k j).least v) (leb v (listed k j).most) is).1

      go : (b : Bool) → meet k j ≡ b → share_word k v j v ≡ true
      go false m = absurd (omega (arith, low, high, apart m))
      go true m =
          let least = (met m).0 in
          let most = (met m).1 in
          rw (
            le-leb (row_of k).least v (omega (arith, low)),
            le-leb v (row_of k).most (omega (arith, high)),
            le-leb (row_of j).least v (omega (arith, low)),
            le-leb v (row_of j).most (omega (arith, high)),
            met-code m,
            eq-eqb ((row_of j).code * 1024 + v) ((row_of j).code * 1024 + v) refl,
          )

  -- requests that give one word do so for a listed value, the same in both
  pub share-listed : (v u : ℕ) → share_word k v j u ≡ true → (is_listed k j v ≡ true) × (u ≡ v)
  unfolding is_listed share_word word_of listed meet lowest highest
  share-listed v u is =
      let first = (and_parts (allows (row_of k) v && allows (row_of j) u) (eqb (word_of k v) (word_of j u)) is).0 in
      let one = (and_parts (allows (row_of k) v) (allows (row_of j) u) first).0 in
      let other = (and_parts (allows (row_of k) v) (allows (row_of j) u) first).1 in
      let word = eqb-true (word_of k v) (word_of j u) (and_parts (allows (row_of k) v && allows (row_of j) u) (eqb (word_of k v) (word_of j u)) is).1 in
      let small = value-small k (omega arith) v one in
      let small' = value-small j known u other in
      let code : (row_of k).code ≡ (row_of j).code = omega arith in
      let same : u ≡ v = omega arith in
      let a = allowed-within (row_of k) v one in
      let b = allowed-within (row_of j) u other in
      let m : meet k j ≡ true = rw (eq-eqb (row_of k).code (row_of j).code code, le-leb (lowest k j) (highest k j) (omega (arith, a.0, a.1, b.0, b.1))) in
      let least = (met m).0 in
      let most = (met m).1 in (
        rw (le-leb (listed k j).least v (omega (arith, a.0, b.0)), le-leb v (listed k j).most (omega (arith, a.1, b.1))),
        same,
      )

  -- so the two are one
  pub exceptions-exact : (v u : ℕ) → share_word k v j u ≡ (is_listed k j v && eqb u v)
  exceptions-exact v u =
      both_ways (share_word k v j u) (is_listed k j v && eqb u v)
      (λ e. let h = share-listed v u e in rw (h.0, eq-eqb u v h.1))
      (λ e. rw (eqb-true u v (and_parts (is_listed k j v) (eqb u v) e).1) (listed-share v (and_parts (is_listed k j v) (eqb u v) e).0))
