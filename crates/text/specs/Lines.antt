-- Document 01, "Examples": the lines that the listing program prints. Every line ends in a newline.
-- Assumes nothing.
use Rattle.std.specs.Prelude.{ℕ, List, [], ◌∷◌, ◌++◌}
use Prim.Native.String.{String}
use Rattle.layout.specs.Numbers.{ascii, decimal_of, hex_of}

unfoldable pub head_text : List ℕ
head_text = ascii "tick word"

unfoldable pub head_line : List ℕ
head_line = head_text ++ ascii "\n"

-- Tick in decimal, word in four hex digits.
unfoldable pub timed_text : ℕ → ℕ → List ℕ
timed_text tick word = decimal_of tick ++ ascii " " ++ hex_of word

unfoldable pub word_line : ℕ → ℕ → List ℕ
word_line tick word = timed_text tick word ++ ascii "\n"

-- A line for each tick and its word.
unfoldable pub word_lines : List ℕ → List ℕ → List ℕ
word_lines [] ws = []
word_lines (t ∷ ts) [] = []
word_lines (t ∷ ts) (w ∷ ws) = word_line t w ++ word_lines ts ws

-- A number after its name.
abbrev pub named : String → ℕ → List ℕ
named name n = ascii name ++ decimal_of n

unfoldable pub end_text : ℕ → List ℕ
end_text end = named "end " end

unfoldable pub end_line : ℕ → List ℕ
end_line end = end_text end ++ ascii "\n"

unfoldable pub refusal_line : ℕ → ℕ → List ℕ
refusal_line number place = named "refused " number ++ named " at " place ++ ascii "\n"

unfoldable pub too_long_line : List ℕ
too_long_line = ascii "input too long\n"
