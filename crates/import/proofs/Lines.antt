-- The lines of a text taken one after another: a first line, and those after it.
-- Assumes nothing.
use mathlib.Core.Path.{◌≡◌, refl, sym, ap, ◌∙◌}
use mathlib.Core.Bool.{Bool, true, false, cond}
use mathlib.Core.List.{List, [], ◌∷◌}
use Prim.Native.Nat.{ℕ, suc, ◌+◌, ◌-◌, ◌≤◌, ◌<◌}
use borrow.Author.Tests.{ltb-true, ltb-false}
use native.Mathlib.Nat.{lt_irrefl}
use native.Mathlib.Numerals.{add-one}
use native.Mathlib.Omega.{arith}
use lib.Dec.{eqb, ltb}
use lib.ListN.{length, take, drop, length-drop, drop_of_length-le}
use lib.Seq.{take_all}
use Rattle.std.specs.Prelude.{Option, Some, None, position}
use Rattle.std.specs.List.{position_or_len}
use Rattle.std.proofs.lemmas.List.Recursion.{is_position_or_len}
use Rattle.import.specs.Read.{before, lines}

-- the bytes before the first newline, or all
unfoldable pub first_line : List ℕ → List ℕ
first_line [] = []
first_line (c ∷ cs) = cond (eqb c 10) [] (c ∷ first_line cs)

drop-next : (k c : ℕ) (l : List ℕ) → drop (suc k + 1) (c ∷ l) ≡ drop (k + 1) l
drop-next k c l = rw (add-one (suc k), add-one k)

pub lines-first : (l : List ℕ) → 0 < length l → lines l ≡ first_line l ∷ lines (drop (length (first_line l) + 1) l)
unfolding lines first_line before
lines-first [] h = absurd (lt_irrefl 0 h)
lines-first (c ∷ []) h = go (eqb c 10)
  where
    go : (z : Bool) → cond z ([] ∷ []) ((c ∷ []) ∷ []) ≡ cond z [] (c ∷ []) ∷ lines (drop (length (cond z [] (c ∷ [])) + 1) (c ∷ []))
    go true = refl
    go false = refl
lines-first (c ∷ (d ∷ ds)) h = go (eqb c 10) (lines-first (d ∷ ds) (omega arith))
  where
    rest : List ℕ
    rest = d ∷ ds

    go : (z : Bool) → lines rest ≡ first_line rest ∷ lines (drop (length (first_line rest) + 1) rest)
        → cond z ([] ∷ lines rest) (before c (lines rest))
        ≡ cond z [] (c ∷ first_line rest) ∷ lines (drop (length (cond z [] (c ∷ first_line rest)) + 1) (c ∷ rest))
    go true e = refl
    go false e = ap (before c) e ∙ ap (λ (l : List ℕ). (c ∷ first_line rest) ∷ lines l) (sym (drop-next (length (first_line rest)) c rest))

pub first_taken : (l : List ℕ) → take (length (first_line l)) l ≡ first_line l
unfolding first_line
first_taken [] = refl
first_taken (c ∷ cs) = go (eqb c 10) (first_taken cs)
  where
    go : (z : Bool) → take (length (first_line cs)) cs ≡ first_line cs
        → take (length (cond z [] (c ∷ first_line cs))) (c ∷ cs) ≡ cond z [] (c ∷ first_line cs)
    go true e = refl
    go false e = ap (λ (l : List ℕ). c ∷ l) e

pub first_short : (l : List ℕ) → length (first_line l) ≤ length l
unfolding first_line
first_short [] = omega arith
first_short (c ∷ cs) = go (eqb c 10) (first_short cs)
  where
    go : (z : Bool) → length (first_line cs) ≤ length cs → length (cond z [] (c ∷ first_line cs)) ≤ suc (length cs)
    go true e = omega arith
    go false e = omega arith

-- the place of the first newline, as the code finds it
module _ (l : List ℕ) where
  abbrev Found : Option ℕ → Type 0
  Found r = r ≡ position (λ c. eqb c 10) l

  first-length : length (first_line l) ≡ position_or_len (λ c. eqb c 10) l
  unfolding first_line
  first-length = is_position_or_len (λ (x : List ℕ). length (first_line x)) (λ c. eqb c 10) refl (λ c cs. go (eqb c 10) (first_line cs) c) l
    where
      go : (z : Bool) (x : List ℕ) (c : ℕ) → length (cond z [] (c ∷ x)) ≡ cond z 0 (1 + length x)
      go true x c = refl
      go false x c = omega arith

  found-at : {n : ℕ} → Found (Some n) → (n ≡ length (first_line l)) × (n < length l)
  found-at {n} is = go (ltb k (length l)) refl is
    where
      k : ℕ
      k = position_or_len (λ c. eqb c 10) l

      go : (z : Bool) → ltb k (length l) ≡ z → Some n ≡ cond z (Some k) None → (n ≡ length (first_line l)) × (n < length l)
      go true e h = let same : n ≡ k = cc in (same ∙ sym first-length, omega (arith, ltb-true k (length l) e))
      go false e h = absurd (cc)

  found-none : Found None → length (first_line l) ≡ length l
  found-none is = go (ltb k (length l)) refl is
    where
      k : ℕ
      k = position_or_len (λ c. eqb c 10) l

      go : (z : Bool) → ltb k (length l) ≡ z → None ≡ cond z (Some k) None → length (first_line l) ≡ length l
      go true e h = absurd (cc)
      go false e h = omega (arith, ltb-false k (length l) e, first-length, first_short l)

  -- a line that ends with a newline
  pub lines-found : {n : ℕ} → Found (Some n) → lines l ≡ take n l ∷ lines (take (length l - (n + 1)) (drop (n + 1) l))
  lines-found {n} is =
      let at = found-at is in
      let all : take (length l - (n + 1)) (drop (n + 1) l) ≡ drop (n + 1) l =
      take_all (length l - (n + 1)) (drop (n + 1) l) (omega (arith, length-drop (n + 1) l))
      in
      lines-first l (omega (arith, at.1)) ∙ rw (← at.0, all) (rw (at.0, first_taken l))

  -- the last line, which lacks it
  pub lines_last : (length l ≡ 0 → ⊥) → Found None → lines l ≡ l ∷ lines []
  lines_last some is =
      let long = found-none is in
      lines-first l (omega arith)
      ∙ rw (long, drop_of_length-le l {i = length l + 1} (omega arith)) (ap (λ (x : List ℕ). x ∷ lines []) (sym (first_taken l) ∙ rw long (take_all (length l) l (omega arith))))

-- no line is left of an empty text
pub lines_none : (l : List ℕ) → length l ≡ 0 → lines l ≡ []
unfolding lines
lines_none [] h = refl
lines_none (c ∷ cs) h = absurd (omega arith)

-- the lines after the first are fewer
pub lines_fewer : {ls ms : List (List ℕ)} {l : List ℕ} → ls ≡ l ∷ ms → length ms < length ls
lines_fewer e = rw e (omega arith)

-- a text has at most as many lines as bytes
before-long : (c : ℕ) (ls : List (List ℕ)) → length (before c ls) ≤ length ls + 1
unfolding before
before-long c [] = omega arith
before-long c (l ∷ ls) = omega arith

pub lines-few : (text : List ℕ) → length (lines text) ≤ length text
unfolding lines
lines-few [] = omega arith
lines-few (c ∷ cs) = go (eqb c 10) (lines-few cs)
  where
    go : (z : Bool) → length (lines cs) ≤ length cs → length (cond z ([] ∷ lines cs) (before c (lines cs))) ≤ suc (length cs)
    go true h = omega arith
    go false h = omega (arith, before-long c (lines cs))
