-- Document 02, request P7: what became of a word w that a head s got, read off the head's own answer and the state before it.
-- Assumes nothing.
use Rattle.std.specs.Prelude.{ℕ, cond, [], ◌∷◌, get_or}
use Rattle.words.specs.Kinds as kind
use Rattle.words.specs.Kinds.{identifier, kind_of}
use Rattle.head.specs.Busy.{busy_ticks}
use Rattle.head.specs.Word.{answer_of}
use Rattle.head.specs.Numbers.{cause_number, is_cause}
use Rattle.head.specs.declared.state.Head.{Head}
use Rattle.head.specs.declared.word.Cause.{Cause}
use Rattle.head.specs.declared.word.Cause.TheVariants.{State, Busy, CoverMoving, UnknownWord, Range, Turn}
use Rattle.head.specs.declared.word.Outcome.{Outcome}
use Rattle.head.specs.declared.word.Outcome.TheVariants as outcome
use Rattle.diagnosis.specs.declared.Diagnosis.{Diagnosis}
use Rattle.diagnosis.specs.declared.Diagnosis.TheVariants.{Taken, StateOutOfRange, HeadBusy, CoverMoves, UnknownIdentifier, DataOutOfRange, OutOfTurn}

-- The mirror word that is due after so many words of a set: they come as SIN M, SIN L, COS M, COS L (document 01, "The head").
unfoldable pub due_after : ℕ → ℕ
due_after count = get_or (kind.sin_m ∷ kind.sin_l ∷ kind.cos_m ∷ []) count kind.cos_l

-- What each cause says: the busy or cover ticks left, the offending word (out of range, with its kind), or the mirror word that was due.
unfoldable pub by_cause : Head → ℕ → Cause → Diagnosis
by_cause s w State = StateOutOfRange
by_cause s w Busy = HeadBusy (busy_ticks s)
by_cause s w CoverMoving = CoverMoves s.motion.cover
by_cause s w UnknownWord = UnknownIdentifier w
by_cause s w Range = DataOutOfRange w (kind_of (identifier w))
by_cause s w Turn = OutOfTurn (due_after s.begun.count)

-- For a taken word it says that it was taken.
unfoldable pub by_outcome : Head → ℕ → Outcome → Diagnosis
by_outcome s w (outcome.Taken a) = Taken
by_outcome s w (outcome.Ignored c) = by_cause s w c

unfoldable pub diagnosis_of : Head → ℕ → Diagnosis
diagnosis_of s w = by_outcome s w (answer_of s w).outcome

-- 0 for a word that is taken, else document 01's number of the cause.
unfoldable pub diagnosis_number : Diagnosis → ℕ
diagnosis_number Taken = 0
diagnosis_number StateOutOfRange = cause_number State
diagnosis_number (HeadBusy n) = cause_number Busy
diagnosis_number (CoverMoves n) = cause_number CoverMoving
diagnosis_number (UnknownIdentifier w) = cause_number UnknownWord
diagnosis_number (DataOutOfRange w k) = cause_number Range
diagnosis_number (OutOfTurn k) = cause_number Turn

-- The same number from that of the head's answer: 0 unless it is a cause's.
unfoldable pub stopped_number : ℕ → ℕ
stopped_number n = cond (is_cause n) n 0
