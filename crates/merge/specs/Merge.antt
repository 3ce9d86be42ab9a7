-- Document 02, request P6: two lists of timed words merged by tick. Each entry is one number, tick x 65,536 + word. The first list is the
-- CCD operator's, the second the infrared operator's.
-- Assumes nothing.
use Rattle.std.specs.Prelude.{ℕ, ◌/◌, ◌%◌, Bool, false, cond, ◌||◌, List, [], ◌∷◌, eqb, ltb}

abbrev pub tick_in : ℕ → ℕ
tick_in e = e / 65536

abbrev pub word_in : ℕ → ℕ
word_in e = e % 65536

unfoldable pub ticks_in : List ℕ → List ℕ
ticks_in [] = []
ticks_in (e ∷ es) = tick_in e ∷ ticks_in es

-- Both lists whole, merged by tick.
unfoldable pub merge : List ℕ → List ℕ → List ℕ
merge [] ys = ys
merge (x ∷ xs) [] = x ∷ xs
merge (x ∷ xs) (y ∷ ys) =
    let first = x ∷ merge xs (y ∷ ys) in
    let second = y ∷ merge (x ∷ xs) ys in
    cond (ltb (tick_in x) (tick_in y)) first second

-- The merged part: by tick until one list runs out.
unfoldable pub merged_part : List ℕ → List ℕ → List ℕ
merged_part [] ys = []
merged_part (x ∷ xs) [] = []
merged_part (x ∷ xs) (y ∷ ys) =
    let first = x ∷ merged_part xs (y ∷ ys) in
    let second = y ∷ merged_part (x ∷ xs) ys in
    cond (ltb (tick_in x) (tick_in y)) first second

-- What is left of each list when one has run out.
unfoldable pub ccd_rest : List ℕ → List ℕ → List ℕ
ccd_rest [] ys = []
ccd_rest (x ∷ xs) [] = x ∷ xs
ccd_rest (x ∷ xs) (y ∷ ys) =
    let first = ccd_rest xs (y ∷ ys) in
    let second = ccd_rest (x ∷ xs) ys in
    cond (ltb (tick_in x) (tick_in y)) first second

unfoldable pub infrared_rest : List ℕ → List ℕ → List ℕ
infrared_rest [] ys = ys
infrared_rest (x ∷ xs) [] = []
infrared_rest (x ∷ xs) (y ∷ ys) =
    let first = infrared_rest xs (y ∷ ys) in
    let second = infrared_rest (x ∷ xs) ys in
    cond (ltb (tick_in x) (tick_in y)) first second

-- A tick stands in a list of ticks.
unfoldable pub has : List ℕ → ℕ → Bool
has [] t = false
has (u ∷ us) t = eqb t u || has us t

-- Some tick stands in both lists.
unfoldable pub share_tick : List ℕ → List ℕ → Bool
share_tick [] ys = false
share_tick (x ∷ xs) ys = has (ticks_in ys) (tick_in x) || share_tick xs ys
