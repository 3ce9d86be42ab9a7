-- Lines laid out by a template: its bytes as they stand, but for these marks, whose places the values take one after another:
--   ####   a number at the right of as many columns as there are marks; @@@@ a number by itself in at most so many, ~~~~ a sine register and
--          %%%% ticks in seconds at the right (Fields)
--   {a|b}  alternatives, of which the value chooses one: a for 0, b for 1, and so on; a mark in one that is not chosen takes no value
--   ^      a star where the next value is another one than before, and a space where it is the same; it takes no value
-- Assumes nothing.
use Rattle.std.specs.Prelude.{ℕ, ◌+◌, Bool, cond, not, ◌||◌, List, [], ◌∷◌, ◌++◌, eqb, get_or}
use Prim.Native.Char.{code}
use Rattle.layout.specs.Fields.{number, plain, sine, seconds, field_text}
use Rattle.layout.specs.declared.template.Cursor.{Cursor}

unfoldable pub is_mark : ℕ → Bool
is_mark c = eqb c number || eqb c plain || eqb c sine || eqb c seconds

-- The cursor after a byte c of the template, where the next byte is n and the next value is v.
unfoldable pub moved : Cursor → ℕ → ℕ → ℕ → Cursor
moved k c n v =
    cond (eqb c (code "|")) (record { chosen = k.chosen; bars = k.bars + 1; width = 0; value = k.value })
    (cond (eqb c (code "}")) (record { chosen = 0; bars = 0; width = 0; value = k.value })
    (cond (eqb k.bars k.chosen)
    (cond (eqb c (code "{")) (record { chosen = v; bars = 0; width = 0; value = k.value + 1 })
    (cond (is_mark c)
    (cond (eqb n c)
    (record { chosen = k.chosen; bars = k.bars; width = k.width + 1; value = k.value })
    (record { chosen = k.chosen; bars = k.bars; width = 0; value = k.value + 1 }))
    k))
    k))

abbrev pub change_mark : Bool → ℕ
change_mark same = cond same (code " ") (code "*")

-- What stands there in the text; b is what the value was before.
unfoldable pub piece : Cursor → ℕ → ℕ → ℕ → ℕ → List ℕ
piece k c n v b =
    cond (eqb c (code "|") || eqb c (code "}") || eqb c (code "{") || not (eqb k.bars k.chosen)) []
    (cond (eqb c (code "^")) (change_mark (eqb v b) ∷ [])
    (cond (is_mark c) (cond (eqb n c) [] (field_text c (k.width + 1) v)) (c ∷ [])))

unfoldable pub layout_from : Cursor → List ℕ → List ℕ → List ℕ → List ℕ
layout_from k [] vs bs = []
layout_from k (c ∷ cs) vs bs =
    let n = get_or cs 0 0 in
    let v = get_or vs k.value 0 in
    let b = get_or bs k.value 0 in
    piece k c n v b ++ layout_from (moved k c n v) cs vs bs

abbrev pub start : Cursor
start = record { chosen = 0; bars = 0; width = 0; value = 0 }

-- The text of a template with these values, and the values before.
unfoldable pub layout : List ℕ → List ℕ → List ℕ → List ℕ
layout template values before = layout_from start template values before
