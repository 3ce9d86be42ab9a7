-- What the program prints for the bytes that it reads: the picture of a map, or the refusal in words.
-- Assumes nothing.
use Rattle.std.specs.Prelude.{ℕ, ◌-◌, cond, List, [], ◌∷◌, ◌++◌, eqb}
use Rattle.layout.specs.Numbers.{ascii}
use Rattle.layout.specs.Template.{layout}
use Rattle.pixels.specs.Measured.{map_number}
use Rattle.picture.specs.Picture.{picture_text}

-- Request P5's refusals, of maps and of requests; the reasons begin at 41.
unfoldable pub refusal_template : List ℕ
refusal_template =
    ascii "refused @@@: {a pixel map has 14,783 bytes"
    ++ ascii "|a spare bit after the last pixel is set"
    ++ ascii "|no such request"
    ++ ascii "|the request's value is out of range}\n"

abbrev pub reason_index : ℕ → ℕ
reason_index number = number - 41

unfoldable pub refusal_text : ℕ → List ℕ
refusal_text number = layout refusal_template (number ∷ reason_index number ∷ []) []

unfoldable pub printed_for : List ℕ → List ℕ
printed_for map = cond (eqb (map_number map) 0) (picture_text map) (refusal_text (map_number map))
