-- The ways through a picture, and its length.
-- Assumes nothing.
use mathlib.Core.Path.{◌≡◌, refl, sym, ap, ◌∙◌}
use mathlib.Core.Bool.{cond}
use lib.Dec.{eqb}
use mathlib.Core.List.{List, [], ◌∷◌, ◌++◌}
use Prim.Native.Nat.{ℕ, ◌*◌, ◌<◌, ◌≤◌, ◌^◌}
use native.Mathlib.Omega.{arith}
use lib.ListN.{length, length-append}
use Rattle.std.specs.Prelude.{Result, Ok, Err}
use Rattle.std.specs.Result.{result_unwrap_or}
use Rattle.layout.specs.Numbers.{ascii, decimal_of}
use Rattle.layout.specs.Template.{layout}
use Rattle.layout.specs.Written.{Written, Front}
use Rattle.layout.proofs.Below.{texts-long}
use Rattle.layout.proofs.Decimals.{decimal-few}
use Rattle.layout.proofs.Widths.{layout-few}
use Rattle.layout.proofs.Writing.{written-front}
use Rattle.pixels.specs.Map.{rows}
use Rattle.pixels.specs.Measured.{lighted_of, readout_of, error_number, measured_number, measured_value, map_number}
use Rattle.pixels.specs.declared.MapError.{MapError}
use Rattle.pixels.specs.declared.MapError.TheVariants.{Length, SpareBit}
use Rattle.pixels.proofs.Maps.{lighted-small, readout-small}
use Rattle.picture.specs.Raster.{byte_text, row_bytes, row_text, raster_text}
use Rattle.picture.specs.Picture.{header_text, picture_text}
use Rattle.picture.specs.Printed.{refusal_template, reason_index, refusal_text, printed_for}

pub refusal-few : (number : ℕ) → length (refusal_text number) ≤ 256
unfolding refusal_text refusal_template ascii
refusal-few number = omega (arith, layout-few refusal_template (number ∷ reason_index number ∷ []) [])

-- a picture has room in 16,384 bytes
raster-long : (map : List ℕ) → length (raster_text map) ≡ rows * row_bytes
unfolding raster_text row_text byte_text
raster-long map =
    texts-long (row_text map) row_bytes (λ r. texts-long (byte_text map r) 1 (λ k. refl) row_bytes) rows

header-few : (lit time : ℕ) → lit < 2 ^ 64 → time < 2 ^ 64 → length (header_text lit time) ≤ 100
unfolding header_text ascii
header-few lit time small small' =
    let named = ascii "P4\n# lighted " ++ decimal_of lit in
    let timed = ascii " of 118260 pixels, readout " ++ decimal_of time in
    omega (
      arith,
      length-append (named ++ timed) (ascii " us\n438 270\n"),
      length-append named timed,
      length-append (ascii "P4\n# lighted ") (decimal_of lit),
      length-append (ascii " of 118260 pixels, readout ") (decimal_of time),
      decimal-few lit refl small,
      decimal-few time refl small',
    )

pub picture-fits : (map : List ℕ) → length (picture_text map) ≤ 16384
unfolding picture_text
picture-fits map =
    let lit = measured_value (lighted_of map) in
    let time = measured_value (readout_of map) in
    let small : lit < 2 ^ 64 = omega (arith, lighted-small map) in
    let small' : time < 2 ^ 64 = omega (arith, readout-small map) in
    omega (arith, length-append (header_text lit time) (raster_text map), header-few lit time small small', raster-long map)

-- the picture of a map, piece by piece
value-or-0 : (r : Result ℕ MapError) → result_unwrap_or r 0 ≡ measured_value r
value-or-0 (Ok n) = refl
value-or-0 (Err e) = refl

module _ (map : List ℕ) (a : Result ℕ MapError) (counted : a ≡ lighted_of map) {lit : ℕ} (or-0 : lit ≡ result_unwrap_or a 0)
    (b : Result ℕ MapError) (timed : b ≡ readout_of map) {time : ℕ} (or-0' : time ≡ result_unwrap_or b 0) where
  is : lit ≡ measured_value a
  is = or-0 ∙ value-or-0 a

  is' : time ≡ measured_value b
  is' = or-0' ∙ value-or-0 b

  fits : length (header_text lit time ++ raster_text map) ≤ 16384
  unfolding picture_text
  fits = rw (is, counted, is', timed) (picture-fits map)

  pub picture-front : (old : List ℕ) → length old ≡ 16384 → {q : ℕ} {new : List ℕ}
      → Written old 0 (header_text lit time ++ raster_text map) q new → Front old (picture_text map) q new
  unfolding picture_text
  picture-front old room w =
      rw (ap measured_value (sym counted), ap measured_value (sym timed), ← is, ← is')
      (written-front w (omega (arith, fits)))

-- what is printed, by the number of the map
module _ (map : List ℕ) (a : Result ℕ MapError) (counted : measured_number a ≡ map_number map) {old : List ℕ} {k : ℕ} {new : List ℕ} where
  pub printed-picture : {n : ℕ} → a ≡ Ok n → Front old (picture_text map) k new → Front old (printed_for map) k new
  unfolding printed_for
  printed-picture is f = rw (← counted, is) f

  pub printed-refusal : {e : MapError} → a ≡ Err e → length old ≡ 16384 → Written old 0 (refusal_text (error_number e)) k new
      → Front old (printed_for map) k new
  unfolding printed_for
  printed-refusal {e} is room w = rw (← counted, is) (refused e w)
    where
      refused : (e : MapError) → Written old 0 (refusal_text (error_number e)) k new
          → Front old (cond (eqb (error_number e) 0) (picture_text map) (refusal_text (error_number e))) k new
      refused Length w = written-front w (omega (arith, refusal-few 41, room))
      refused SpareBit w = written-front w (omega (arith, refusal-few 42, room))
