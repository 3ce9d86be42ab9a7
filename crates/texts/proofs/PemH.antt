-- The ways through the exported picture of the high-resolution head.
-- Assumes nothing.
use mathlib.Core.Path.{◌≡◌, refl, sym}
use mathlib.Core.Bool.{false}
use lib.Dec.{eqb}
use mathlib.Core.List.{List}
use Prim.Native.Nat.{ℕ, ◌<◌, ◌^◌}
use native.Mathlib.Omega.{arith}
use lib.ListN.{length, take}
use Rattle.layout.specs.Written.{Front}
use Rattle.interface.specs.Plans.{packed}
use Rattle.pixels.specs.Measured.{error_number, map_number}
use Rattle.pixels.specs.declared.MapError.{MapError}
use Rattle.pixels.specs.declared.MapError.TheVariants.{Length, SpareBit}
use Rattle.picture.specs.Picture.{picture_text}
use Rattle.picture.proofs.Pictures.{picture-fits}
use Rattle.texts.specs.Texts.{has_room, text_after, room_answer}
use Rattle.texts.specs.PemH.{picture_answer, picture_left}
use Rattle.texts.proofs.Handed.{front-answer, front-after, refused-answer, refused-left}

pub picture-small : (map : List ℕ) → length (picture_text map) < 2 ^ 32
picture-small map = omega (arith, picture-fits map)

some-number : (e : MapError) → eqb (error_number e) 0 ≡ false
some-number Length = refl
some-number SpareBit = refl

-- a picture, or why there is none: n is the number of the map
module _ (map old : List ℕ) where
  module _ (e : MapError) (counted : error_number e ≡ map_number map) {n : ℕ} (is : n ≡ error_number e) where
    pub unpictured-answer : {r : ℕ} → r ≡ packed n 0 0 → r ≡ picture_answer map old
    unfolding picture_answer
    unpictured-answer answer = rw (← counted) (refused-answer (error_number e) (some-number e) (picture_text map) old 0 (rw is at answer))

    pub unpictured-left : old ≡ picture_left map old
    unfolding picture_left
    unpictured-left = rw (← counted) (refused-left (error_number e) (some-number e) (picture_text map) old)

  module _ (none : 0 ≡ map_number map) {m : List ℕ} {k : ℕ} {made : List ℕ} (front : Front m (picture_text map) k made) where
    pub pictured-answer : {r : ℕ} → r ≡ room_answer (take k made) old → r ≡ picture_answer map old
    unfolding picture_answer
    pictured-answer e = front-answer front (sym none) old 0 e

    pub pictured-left : {new : List ℕ} → new ≡ text_after (has_room (take k made) old) (take k made) old → new ≡ picture_left map old
    unfolding picture_left
    pictured-left e = front-after front (sym none) old e
