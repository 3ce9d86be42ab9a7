-- Document 02, request P1: which words and ticks make a list. Requests P6 and P11 ask for rising ticks too.
-- Assumes nothing.
use Rattle.std.specs.Prelude.{ℕ, Bool, true, ◌&&◌, List, [], ◌∷◌, eqb, leb, ltb, length}

-- Strictly rising.
unfoldable pub rising : List ℕ → Bool
rising [] = true
rising (t ∷ []) = true
rising (t ∷ (u ∷ ts)) = ltb t u && rising (u ∷ ts)

abbrev pub most_words : ℕ
most_words = 256

-- As many words as ticks, at most 256, and the ticks rise.
unfoldable pub is_list : List ℕ → List ℕ → Bool
is_list ws ts = eqb (length ws) (length ts) && leb (length ws) most_words && rising ts
