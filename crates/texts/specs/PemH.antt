-- What the exported functions that write the high-resolution head's texts answer, and the array that they leave (document 02, request P5).
-- Assumes nothing.
use Rattle.std.specs.Prelude.{ℕ, Bool, ◌&&◌, List, leb}
use Rattle.pixels.specs.Measured.{map_number}
use Rattle.picture.specs.Picture.{picture_text}
use Rattle.texts.specs.Texts.{text_after, text_answer, is_put}

-- The number of the map in bits 0-7, 10 where there is no room; the length of the picture in bits 32-63.
unfoldable pub picture_answer : List ℕ → List ℕ → ℕ
picture_answer map old = text_answer (map_number map) 0 (picture_text map) old

unfoldable pub picture_left : List ℕ → List ℕ → List ℕ
picture_left map old = text_after (is_put (map_number map) (picture_text map) old) (picture_text map) old

-- A refusal has a number of 41-44; no other has words.
unfoldable pub is_pem_h_refusal : ℕ → Bool
is_pem_h_refusal number = leb 41 number && leb number 44
