-- What the exported functions that write a text answer, and the arrays that they leave: the listing and the report of a plan, and a
-- refusal in words.
-- Assumes nothing.
use Rattle.std.specs.Prelude.{ℕ, Bool, cond, ◌&&◌, List, ◌++◌, eqb, leb, length, drop}
use Rattle.head.specs.Row.{numbers_of, state_of}
use Rattle.head.specs.declared.state.Head.{Head}
use Rattle.plan.specs.Stored.{plan_of}
use Rattle.schedule.specs.Translate.{most_words, schedule_of, translation_number, translation_place}
use Rattle.run.specs.Run.{head_after}
use Rattle.text.specs.Listing.{plan_text}
use Rattle.report.specs.Refusal.{refusal_text}
use Rattle.report.specs.Report.{rested, report_text}
use Rattle.interface.specs.State.{well_formed}
use Rattle.interface.specs.Plans.{packed}

abbrev pub has_room : List ℕ → List ℕ → Bool
has_room text old = leb (length text) (length old)

-- The text in the first places, and every other place as it was; or nothing is written.
unfoldable pub text_after : Bool → List ℕ → List ℕ → List ℕ
text_after put text old = cond put (text ++ drop (length text) old) old

-- The number in bits 0-7: 10 where there is no room. A count in bits 8-23, and the length of the text in bits 32-63.
unfoldable pub counted_answer : ℕ → List ℕ → List ℕ → ℕ
counted_answer count text old = packed (cond (has_room text old) 0 10) count (length text)

abbrev pub room_answer : List ℕ → List ℕ → ℕ
room_answer text old = counted_answer 0 text old

-- A plan that is refused has a number of 1-9, and its byte place in bits 32-63.
unfoldable pub text_answer : ℕ → ℕ → List ℕ → List ℕ → ℕ
text_answer number place text old = cond (eqb number 0) (room_answer text old) (packed number 0 place)

unfoldable pub is_put : ℕ → List ℕ → List ℕ → Bool
is_put number text old = eqb number 0 && has_room text old

-- The number and the place with which translation refuses a plan for a head, 0 for none. Document 01's 1 stands for an array l that is
-- not well formed too.
unfoldable pub number_for : List ℕ → Head → List ℕ → ℕ
number_for l s bs = cond (well_formed l) (translation_number s bs most_words most_words) 1

unfoldable pub place_for : List ℕ → Head → List ℕ → ℕ
place_for l s bs = cond (well_formed l) (translation_place s bs) 0

-- The listing of a plan for the head that the array holds.
unfoldable pub listing_answer : List ℕ → List ℕ → List ℕ → ℕ
listing_answer l bs old =
    text_answer (number_for l (state_of l) bs) (place_for l (state_of l) bs) (plan_text (state_of l) bs) old

unfoldable pub listing_left : List ℕ → List ℕ → List ℕ → List ℕ
listing_left l bs old =
    let text = plan_text (state_of l) bs in
    text_after (is_put (number_for l (state_of l) bs) text old) text old

-- The report starts from the same head once it is idle and nothing moves.
unfoldable pub report_number : List ℕ → List ℕ → ℕ
report_number l bs = number_for l (rested (state_of l)) bs

unfoldable pub report_answer : List ℕ → List ℕ → List ℕ → ℕ
report_answer l bs old =
    text_answer (report_number l bs) (place_for l (rested (state_of l)) bs) (report_text (state_of l) bs) old

unfoldable pub report_left : List ℕ → List ℕ → List ℕ → List ℕ
report_left l bs old =
    let text = report_text (state_of l) bs in
    text_after (is_put (report_number l bs) text old) text old

-- The head at the plan's end.
unfoldable pub plan_end : Head → List ℕ → Head
plan_end s bs = let sch = schedule_of s (plan_of bs) in head_after sch.end 0 sch.list s

-- A text that is not written leaves the array as it was.
unfoldable pub report_state : List ℕ → List ℕ → List ℕ → List ℕ
report_state l bs old =
    cond (is_put (report_number l bs) (report_text (state_of l) bs) old) (numbers_of (plan_end (rested (state_of l)) bs)) l

-- A refusal has a number of 1-10; no other has words.
unfoldable pub is_refusal : ℕ → Bool
is_refusal number = leb 1 number && leb number 10

-- The length of the words, 0 where nothing is written.
unfoldable pub refusal_length : ℕ → ℕ → List ℕ → List ℕ → ℕ
refusal_length number place bs old =
    let text = refusal_text number place bs in
    cond (is_refusal number && has_room text old) (length text) 0

unfoldable pub refusal_left : ℕ → ℕ → List ℕ → List ℕ → List ℕ
refusal_left number place bs old =
    let text = refusal_text number place bs in
    text_after (is_refusal number && has_room text old) text old

-- A refusal in words: the length of the words, 0 where nothing is written; `known` is whether the number has words.
unfoldable pub words_length : Bool → List ℕ → List ℕ → ℕ
words_length known text old = cond (known && has_room text old) (length text) 0

unfoldable pub words_left : Bool → List ℕ → List ℕ → List ℕ
words_left known text old = text_after (known && has_room text old) text old
