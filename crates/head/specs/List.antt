-- Document 02, request P1: a list of timed words in one call, as if its words and the ticks between them had gone in singly.
-- Assumes nothing.
use Rattle.std.specs.Prelude.{ℕ, Result, Ok, Err, ◌-◌, cond, not, ◌&&◌, List, [], ◌∷◌, ◌++◌, map, eqb, leb, length, drop}
use Rattle.timed.specs.List.{rising, most_words, is_list}
use Rattle.head.specs.Range.{in_range}
use Rattle.head.specs.Word.{answer_of}
use Rattle.head.specs.Tick.{ticks_of}
use Rattle.head.specs.Numbers.{cause_number, outcome_number}
use Rattle.head.specs.declared.state.Head.{Head}
use Rattle.head.specs.declared.word.Cause.TheVariants.{State}
use Rattle.head.specs.declared.word.Outcome.{Outcome}
use Rattle.head.specs.declared.list.ListError.{ListError}
use Rattle.head.specs.declared.list.ListError.TheVariants.{StateRefused, ListRefused}
use Rattle.head.specs.declared.list.Listed.{Listed}

-- The ticks that pass after a word of tick t, where ts are the ticks of the words after it: as many as the next one differs by; after the
-- last word, its own.
unfoldable pub gap_after : ℕ → List ℕ → ℕ
gap_after t [] = 1
gap_after t (u ∷ ts) = u - t

-- The state once word w has been given and these ticks have passed, one by one.
unfoldable pub stepped : Head → ℕ → ℕ → List ℕ → Head
stepped s w t ts = ticks_of (gap_after t ts) (answer_of s w).head

-- The state after a list of words with their ticks; the first word goes at once.
unfoldable pub head_listed : List ℕ → List ℕ → Head → Head
head_listed [] ts s = s
head_listed (w ∷ ws) [] s = s
head_listed (w ∷ ws) (t ∷ ts) s = head_listed ws ts (stepped s w t ts)

-- What becomes of each word, taken or ignored.
unfoldable pub outcomes_listed : List ℕ → List ℕ → Head → List Outcome
outcomes_listed [] ts s = []
outcomes_listed (w ∷ ws) [] s = []
outcomes_listed (w ∷ ws) (t ∷ ts) s = (answer_of s w).outcome ∷ outcomes_listed ws ts (stepped s w t ts)

-- Its number.
unfoldable pub numbers_listed : List ℕ → List ℕ → Head → List ℕ
numbers_listed ws ts s = map outcome_number (outcomes_listed ws ts s)

-- 21 first, then 31: no list, or a buffer for the outcomes of fewer places than it has words. Nothing is done then.
unfoldable pub list_of : Head → List ℕ → List ℕ → ℕ → Listed
list_of s ws ts room =
    cond (not (in_range s)) (record { head = s; answer = Err StateRefused })
    (cond (not (is_list ws ts && leb (length ws) room)) (record { head = s; answer = Err ListRefused })
    (record { head = head_listed ws ts s; answer = Ok tt }))

-- The buffer that comes back: a refusal writes nothing; the outcomes fill the first places only.
unfoldable pub outcomes_after : Result (Unit {0}) ListError → List ℕ → List ℕ → List ℕ
outcomes_after (Ok _) numbers old = numbers ++ drop (length numbers) old
outcomes_after (Err _) numbers old = old

-- The numbers of the answers.
unfoldable pub list_error_number : ListError → ℕ
list_error_number StateRefused = cause_number State
list_error_number ListRefused = 31

unfoldable pub list_answer_number : Result (Unit {0}) ListError → ℕ
unfolding list_error_number
list_answer_number (Ok _) = 0
list_answer_number (Err e) = list_error_number e

-- The same from the state, the two lists and the number of places for outcomes, in the order of the checks.
unfoldable pub list_number : Head → List ℕ → List ℕ → ℕ → ℕ
list_number s ws ts room =
    cond (not (in_range s)) 21
    (cond (not (rising ts)) 31
    (cond (not (eqb (length ws) (length ts))) 31
    (cond (not (leb (length ws) most_words)) 31
    (cond (not (leb (length ws) room)) 31 0))))
