-- The ways through the count and the readout of a map.
-- Assumes nothing.
use mathlib.Core.Path.{◌≡◌, refl, sym, ap, ◌∙◌}
use mathlib.Core.Bool.{Bool, true, false, cond, not}
use mathlib.Core.List.{List}
use mir.Syntax.{w8}
use mir.Val.{Fits}
use Prim.Native.Nat.{ℕ, zero, suc, ◌+◌, ◌-◌, ◌*◌, ◌%◌, ◌^◌, ◌<◌, ◌≤◌}
use native.Mathlib.Nat.{add-zero}
use native.Mathlib.Omega.{arith}
use borrow.Author.Tests.{eq-eqb, ne_eqb}
use lib.Count.{ones}
use lib.Dec.{eqb, lit<}
use lib.ListN.{length, get_or}
use Rattle.pixels.specs.Map.{rows, columns, pixels, map_bytes, is_set, is_lit, how_many, lighted, spare_bits, spare_set}
use Rattle.pixels.specs.Readout.{readout_time}
use Rattle.pixels.specs.Measured.{measured, lighted_of, readout_of, measured_number, measured_value, map_number}
use Rattle.std.specs.Prelude.{Result, Ok, Err}
use Rattle.std.specs.Result.{result_map_both}
use Rattle.std.specs.List.{sum_by}
use Rattle.std.proofs.Common.{take, take_all, add-one}
use Rattle.std.proofs.lemmas.List.Sums.{sum_by_more}
use Rattle.pixels.specs.declared.MapError.{MapError}
use Rattle.pixels.specs.declared.MapError.TheVariants.{Length, SpareBit}
use Rattle.pixels.proofs.Counting.{many-parts, many-rows, many-le}
use Rattle.pixels.proofs.Bytes.{bit_at, byte-bits, half-bits, half-none, half-some}

-- the bits of the first bytes, byte by byte
bits-by-byte : (map : List ℕ) → ((i : ℕ) → get_or map i 0 < 256) → (n : ℕ) → n ≤ length map
    → sum_by ones (take n map) ≡ how_many (is_set map) (8 * n)
unfolding how_many
bits-by-byte map small zero h = refl
bits-by-byte map small (suc n) h =
    let next : 8 * suc n ≡ 8 * n + 8 = omega arith in
    rw (next, many-parts (is_set map) (8 * n) 8, byte-bits map n (small n), ← bits-by-byte map small n (omega arith))
    (rw (← add-one n) (sum_by_more ones map n 0 h))

pub bits-counted : (map : List ℕ) → ((i : ℕ) → Fits w8 (get_or map i 0)) → sum_by ones map ≡ how_many (is_set map) (8 * length map)
bits-counted map small =
    ap (sum_by ones) (sym (take_all (length map) map (omega arith))) ∙ bits-by-byte map (λ i. (small i).fits) (length map) (omega arith)

pub ones-few : (map : List ℕ) → ((i : ℕ) → Fits w8 (get_or map i 0)) → length map ≤ map_bytes → sum_by ones map < 2 ^ 32
ones-few map small few = rw (bits-counted map small) (omega (arith, many-le (is_set map) (8 * length map)))

-- the bits after the last pixel are the lower half of the last byte
abbrev spares : List ℕ → ℕ
spares map = how_many (λ k. is_set map (pixels + k)) spare_bits

spare-count : (map : List ℕ) → spares map ≡ half-bits (get_or map (map_bytes - 1) 0)
unfolding how_many
spare-count map =
    rw (
      bit_at map (map_bytes - 1) 4 (lit< tt),
      bit_at map (map_bytes - 1) 5 (lit< tt),
      bit_at map (map_bytes - 1) 6 (lit< tt),
      bit_at map (map_bytes - 1) 7 (lit< tt),
    )

module _ (map : List ℕ) where
  spare-none : get_or map (map_bytes - 1) 0 % 16 ≡ 0 → spares map ≡ 0
  spare-none e = spare-count map ∙ half-none (get_or map (map_bytes - 1) 0) e

  spare-some : (get_or map (map_bytes - 1) 0 % 16 ≡ 0 → ⊥) → spares map ≡ 0 → ⊥
  spare-some ne e = ne (half-some (get_or map (map_bytes - 1) 0) (sym (spare-count map) ∙ e))

-- the bits of the pixels are those of the rows
lighted-bits : (map : List ℕ) → how_many (is_set map) pixels ≡ lighted map
unfolding lighted is_lit
lighted-bits map = many-rows (is_set map) columns rows

lighted-all : (map : List ℕ) → spares map ≡ 0 → how_many (is_set map) (8 * map_bytes) ≡ lighted map
lighted-all map none =
    many-parts (is_set map) pixels spare_bits ∙ ap (λ (n : ℕ). how_many (is_set map) pixels + n) none ∙ add-zero (how_many (is_set map) pixels)
    ∙ lighted-bits map

pub lighted-few : (map : List ℕ) → lighted map ≤ pixels
lighted-few map = rw (← lighted-bits map) (many-le (is_set map) pixels)

-- the number of what is measured is the one that the map gives
pub measured-number : (map : List ℕ) (n : ℕ) (r : Result ℕ MapError) → r ≡ measured map n → measured_number r ≡ map_number map
unfolding measured map_number
measured-number map n r e = rw e (go (eqb (length map) map_bytes) (spare_set map))
  where
    go : (a b : Bool) → measured_number (cond a (cond b (Err SpareBit) (Ok n)) (Err Length)) ≡ cond (not a) 41 (cond b 42 0)
    go false b = refl
    go true true = refl
    go true false = refl

module _ (map : List ℕ) where
  pub lighted-number : (r : Result ℕ MapError) → r ≡ lighted_of map → measured_number r ≡ map_number map
  unfolding lighted_of
  lighted-number r e = measured-number map (lighted map) r e

  pub readout-number : (r : Result ℕ MapError) → r ≡ readout_of map → measured_number r ≡ map_number map
  unfolding readout_of
  readout-number r e = measured-number map (readout_time (lighted map)) r e

  -- the three ways through the count
  pub lighted-length : (length map ≡ map_bytes → ⊥) → Err Length ≡ lighted_of map
  unfolding lighted_of measured
  lighted-length ne = rw (ne_eqb (length map) map_bytes ne)

  module _ (whole : length map ≡ map_bytes) where
    pub lighted-spare : (get_or map (map_bytes - 1) 0 % 16 ≡ 0 → ⊥) → Err SpareBit ≡ lighted_of map
    unfolding lighted_of measured spare_set
    lighted-spare ne =
        rw (
          eq-eqb (length map) map_bytes whole,
          ne_eqb (spares map) 0 (spare-some map ne),
        )

    pub lighted-found : get_or map (map_bytes - 1) 0 % 16 ≡ 0 → {n : ℕ} → n ≡ how_many (is_set map) (8 * length map) → Ok n ≡ lighted_of map
    unfolding lighted_of measured spare_set
    lighted-found e count =
        let none = spare-none map e in
        rw (eq-eqb (length map) map_bytes whole, none, count, whole, lighted-all map none)

  -- and through the readout: the time of what is counted
  pub readout-by : readout_of map ≡ result_map_both readout_time (λ (e : MapError). e) (lighted_of map)
  unfolding readout_of lighted_of measured
  readout-by = go (eqb (length map) map_bytes) (spare_set map)
    where
      go : (x y : Bool) → cond x (cond y (Err SpareBit) (Ok (readout_time (lighted map)))) (Err Length)
          ≡ result_map_both readout_time (λ (e : MapError). e) (cond x (cond y (Err SpareBit) (Ok (lighted map))) (Err Length))
      go false y = refl
      go true true = refl
      go true false = refl

  pub counted-few : {n : ℕ} → lighted_of map ≡ Ok n → n ≤ pixels
  unfolding lighted_of measured
  counted-few {n} found = go (eqb (length map) map_bytes) (spare_set map) found
    where
      go : (x y : Bool) → cond x (cond y (Err SpareBit) (Ok (lighted map))) (Err Length) ≡ Ok n → n ≤ pixels
      go false y e = absurd cc
      go true true e = absurd cc
      go true false e = let same : n ≡ lighted map = cc in omega (arith, lighted-few map)

-- what is measured fits in 24 bits
measured-small : (map : List ℕ) (n : ℕ) → n < 2 ^ 24 → measured_value (measured map n) < 2 ^ 24
unfolding measured
measured-small map n h = go (eqb (length map) map_bytes) (spare_set map)
  where
    go : (x y : Bool) → measured_value (cond x (cond y (Err SpareBit) (Ok n)) (Err Length)) < 2 ^ 24
    go false y = omega arith
    go true true = omega arith
    go true false = h

module _ (map : List ℕ) where
  pub lighted-small : measured_value (lighted_of map) < 2 ^ 24
  unfolding lighted_of
  lighted-small = measured-small map (lighted map) (omega (arith, lighted-few map))

  pub readout-small : measured_value (readout_of map) < 2 ^ 24
  unfolding readout_of
  readout-small = measured-small map (readout_time (lighted map)) (omega (arith, lighted-few map))
