-- A line of a list, without its newline: a tick and a word, or the end. It is one where it reads as the listing prints them, and in no
-- other form.
-- Assumes nothing.
use Rattle.std.specs.Prelude.{ℕ, ◌+◌, ◌-◌, ◌*◌, ◌^◌, min, Bool, true, false, cond, ◌&&◌, ◌||◌, List, [], ◌∷◌, eqb, leb, ltb, length, take, drop, Option, Some, None}
use Prim.Native.Char.{code}
use Rattle.text.specs.Lines.{timed_text, end_text}
use Rattle.import.specs.declared.line.Line.{Line}
use Rattle.import.specs.declared.line.Line.TheVariants.{Word, End}

-- A hexadecimal letter in upper case; any other byte as it is.
unfoldable pub upper : ℕ → ℕ
upper c = cond (leb (code "a") c && leb c (code "f")) (c - 32) c

-- A byte stands for one that is printed: a hexadecimal letter may be of either case.
unfoldable pub stands_for : ℕ → ℕ → Bool
stands_for c printed = eqb c printed || eqb (upper c) printed

-- A line reads as what is printed, byte by byte.
unfoldable pub is_text : List ℕ → List ℕ → Bool
is_text [] [] = true
is_text [] (d ∷ ds) = false
is_text (c ∷ cs) [] = false
is_text (c ∷ cs) (d ∷ ds) = stands_for c d && is_text cs ds

-- Ticks are below 2^32.
abbrev pub tick_limit : ℕ
tick_limit = 2 ^ 32

abbrev pub word_limit : ℕ
word_limit = 2 ^ 16

-- The value of a digit; that of any other byte is of no account, since it is not printed again.
unfoldable pub digit_value : ℕ → ℕ
digit_value c = cond (ltb c (code "A")) (c - code "0") (upper c - (code "A" - 10))

-- The number that digits after n stand for, as far as the limit.
unfoldable pub value_from : ℕ → ℕ → List ℕ → ℕ
value_from base n [] = n
value_from base n (c ∷ cs) = value_from base (min (base * n + digit_value c) tick_limit) cs

-- The tick stands before a space and the four digits of the word; the end's stands after "end ".
unfoldable pub tick_in : List ℕ → ℕ
tick_in l = value_from 10 0 (take (length l - 5) l)

unfoldable pub word_in : List ℕ → ℕ
word_in l = value_from 16 0 (drop (length l - 4) l)

unfoldable pub end_in : List ℕ → ℕ
end_in l = value_from 10 0 (drop 4 l)

-- The line reads as these numbers are printed.
unfoldable pub reads_timed : List ℕ → ℕ → ℕ → Bool
reads_timed l tick word = ltb tick tick_limit && ltb word word_limit && is_text l (timed_text tick word)

unfoldable pub reads_end : List ℕ → ℕ → Bool
reads_end l tick = ltb tick tick_limit && is_text l (end_text tick)

-- None for a line of any other form.
unfoldable pub line_of : List ℕ → Option Line
line_of l =
    cond (reads_timed l (tick_in l) (word_in l)) (Some (Word (tick_in l) (word_in l)))
    (cond (reads_end l (end_in l)) (Some (End (end_in l))) None)
