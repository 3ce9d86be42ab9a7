-- The name of a kind (document 01, "The words").
-- Assumes nothing.
use Rattle.std.specs.Prelude.{ℕ, min, List, [], ◌∷◌, ◌++◌}
use Rattle.words.specs.Kinds.{kinds}
use Rattle.layout.specs.Numbers.{ascii}
use Rattle.layout.specs.Template.{layout}

-- The kinds in the order of their numbers; the last is that of an identifier that no kind has.
unfoldable pub kind_template : List ℕ
kind_template =
    ascii "{NOP        |START      |HK         |STOP       |IR DETECTOR|IR WIN MODE|VDETCOM M  |VDETCOM L  "
    ++ ascii "|VDETADJ M  |VDETADJ L  |IR DELAY   |IR EXPO    |WIN X1     |WIN Y1     |WIN X2     |WIN Y2     "
    ++ ascii "|CCD DELAY  |CCD EXPO   |CCD LAMP   |IR LAMP    |SHUTTER    |ANNEALING  |SIN M      |SIN L      "
    ++ ascii "|COS M      |COS L      |SWITCH     |COVER      |unknown    }  "

unfoldable pub kind_name : ℕ → List ℕ
kind_name k = layout kind_template (k ∷ []) []

-- The same names without the spaces of the column.
unfoldable pub name_template : List ℕ
name_template =
    ascii "{NOP|START|HK|STOP|IR DETECTOR|IR WIN MODE|VDETCOM M|VDETCOM L"
    ++ ascii "|VDETADJ M|VDETADJ L|IR DELAY|IR EXPO|WIN X1|WIN Y1|WIN X2|WIN Y2"
    ++ ascii "|CCD DELAY|CCD EXPO|CCD LAMP|IR LAMP|SHUTTER|ANNEALING|SIN M|SIN L"
    ++ ascii "|COS M|COS L|SWITCH|COVER|unknown}"

unfoldable pub bare_name : ℕ → List ℕ
bare_name k = layout name_template (min k kinds ∷ []) []
