-- Document 02, request P1, at power-on: the list of document 01's example plan in one call; the same list without its fourth mirror word,
-- which no outcome and no flag tells; and a row for each rule of the request. `Head::list` promises these very numbers, so a program that
-- gives others at one of these lists is refused.
-- Assumes nothing.
use Rattle.std.specs.Prelude.{ℕ, List, [], ◌∷◌, ◌++◌}
use Rattle.head.specs.State.{power_on}
use Rattle.head.specs.List.{head_listed, numbers_listed}
use Rattle.head.specs.declared.state.Head.{Head}
use Rattle.examples.specs.Starred.{Row, ◌gives◌}

abbrev pub whole_words : List ℕ
whole_words = 0x2011 ∷ 0xA000 ∷ 0x600F ∷ 0xE0F8 ∷ 0x8000 ∷ 0x4000 ∷ []

abbrev pub whole_ticks : List ℕ
whole_ticks = 0 ∷ 1 ∷ 2 ∷ 3 ∷ 69 ∷ 227 ∷ []

abbrev pub lost_words : List ℕ
lost_words = 0x2011 ∷ 0xA000 ∷ 0x600F ∷ 0x8000 ∷ 0x4000 ∷ []

abbrev pub lost_ticks : List ℕ
lost_ticks = 0 ∷ 1 ∷ 2 ∷ 69 ∷ 227 ∷ []

-- Two lists, a row for each place; where one ends before the other, a row that does not hold.
unfoldable pub beside : List ℕ → List ℕ → List Row
beside [] [] = []
beside [] (y ∷ ys) = (0 gives 1) ∷ []
beside (x ∷ xs) [] = (0 gives 1) ∷ []
beside (x ∷ xs) (y ∷ ys) = (x gives y) ∷ beside xs ys

-- The mirror's pair, then the five flags.
unfoldable pub seen : Head → List ℕ
seen s =
    s.settings.sine
    ∷ s.settings.cosine
    ∷ s.flags.irtime
    ∷ s.flags.irword
    ∷ s.flags.scan
    ∷ s.flags.vistime
    ∷ s.flags.visword
    ∷ []

unfoldable pub list_table : List Row
list_table =
    -- every word is taken: one exposure, one request; the mirror has moved
    beside (numbers_listed whole_words whole_ticks power_on) (0 ∷ 0 ∷ 0 ∷ 0 ∷ 1 ∷ 2 ∷ [])
    ++ beside (seen (head_listed whole_words whole_ticks power_on)) (0x1100 ∷ 4088 ∷ 0 ∷ 0 ∷ 0 ∷ 0 ∷ 0 ∷ [])
    -- every word is taken: the exposure is made under the old pair
    ++ beside (numbers_listed lost_words lost_ticks power_on) (0 ∷ 0 ∷ 0 ∷ 1 ∷ 2 ∷ [])
    ++ beside (seen (head_listed lost_words lost_ticks power_on)) (0 ∷ 4095 ∷ 0 ∷ 0 ∷ 0 ∷ 0 ∷ 0 ∷ [])
    -- an ignored word doesn't stop the rest: A000 is out of turn, and D801 after it is taken
    ++ beside (numbers_listed (0xA000 ∷ 0xD801 ∷ []) (0 ∷ 1 ∷ []) power_on) (25 ∷ 0 ∷ [])
    ++ (((head_listed (0xA000 ∷ 0xD801 ∷ []) (0 ∷ 1 ∷ []) power_on).settings.detector gives 1) ∷ [])
    -- as many ticks as the words' ticks differ by: after START the head is busy for 158
    ++ beside (numbers_listed (0x8000 ∷ 0x0000 ∷ []) (0 ∷ 157 ∷ []) power_on) (1 ∷ 22 ∷ [])
    ++ beside (numbers_listed (0x8000 ∷ 0x0000 ∷ []) (0 ∷ 158 ∷ []) power_on) (1 ∷ 0 ∷ [])
    -- the first word goes at once, whatever its tick, and the last word's own tick passes
    ++ (((head_listed (0x8000 ∷ []) (0 ∷ []) power_on).work.busy gives 157) ∷ [])
    ++ (((head_listed (0x8000 ∷ []) (500 ∷ []) power_on).work.busy gives 157) ∷ [])
    -- a cover move gives its word
    ++ beside (numbers_listed (0x1201 ∷ []) (0 ∷ []) power_on) (0x1201 ∷ [])
