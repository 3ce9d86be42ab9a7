-- Document 01, "Plans": the words of an order as the code answers them. Those of an order that fits are `words_of`: law `fit_cut` of
-- proofs/OrderWords.antt.
-- Assumes nothing.
use Rattle.std.specs.Prelude.{ℕ, ◌%◌, List, [], ◌∷◌, map, length, get_or}
use Rattle.orders.specs.Words.{words_of}
use Rattle.orders.specs.declared.order.Order.{Order}
use Rattle.orders.specs.declared.encoding.Words.{Words}

-- The first four of a list; 0 past its end.
abbrev pub four : List ℕ → List ℕ
four l = get_or l 0 0 ∷ get_or l 1 0 ∷ get_or l 2 0 ∷ get_or l 3 0 ∷ []

-- A word has sixteen bits; the words of an order that does not fit are cut to them.
abbrev pub cut : List ℕ → List ℕ
cut ws = map (λ w. w % 65536) ws

unfoldable pub words_cut : Order → List ℕ
words_cut o = cut (words_of o)

-- Words with their number.
unfoldable pub listed : List ℕ → Words
listed ws = record { count = length ws; list = four ws }
