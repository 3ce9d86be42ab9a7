-- Document 02, request P7: "What it says must be true of that state, and it names the rule the head itself applied; for a taken word it
-- says that it was taken." Said in the head's own terms: its answers (`answer_of`), its ticks (`ticks_of`), and whether it is busy.
-- Assumes nothing.
use Rattle.std.specs.Prelude.{◌≡◌, Bool, true, false, ℕ, ◌-◌, ◌<◌, ◌≤◌, ltb, Err}
use Rattle.words.specs.Kinds as kind
use Rattle.words.specs.Kinds.{bits_of, allowed}
use Rattle.words.specs.Codec.{decode_of, word_of}
use Rattle.words.specs.declared.DecodeError.TheVariants as decode_error
use Rattle.head.specs.Range.{in_range}
use Rattle.head.specs.Busy.{is_busy}
use Rattle.head.specs.Flags.{mirror_word}
use Rattle.head.specs.Word.{answer_of}
use Rattle.head.specs.Tick.{ticks_of}
use Rattle.head.specs.declared.state.Head.{Head}
use Rattle.head.specs.declared.word.Act.TheVariants as act
use Rattle.head.specs.declared.word.Cause.{Cause}
use Rattle.head.specs.declared.word.Cause.TheVariants.{State, Busy, CoverMoving, UnknownWord, Range, Turn}
use Rattle.head.specs.declared.word.Outcome.{Outcome}
use Rattle.head.specs.declared.word.Outcome.TheVariants as outcome
use Rattle.diagnosis.specs.declared.Diagnosis.{Diagnosis}
use Rattle.diagnosis.specs.declared.Diagnosis.TheVariants.{Taken, StateOutOfRange, HeadBusy, CoverMoves, UnknownIdentifier, DataOutOfRange, OutOfTurn}

-- What a rule makes of a word: it is taken, or stopped by the rule of a cause.
pub data Ruling : Type 0 where
  takes : Ruling
  stops : Cause → Ruling

-- The ruling that a diagnosis names, and the one in the head's answer.
unfoldable pub named : Diagnosis → Ruling
named Taken = takes
named StateOutOfRange = stops State
named (HeadBusy n) = stops Busy
named (CoverMoves n) = stops CoverMoving
named (UnknownIdentifier w) = stops UnknownWord
named (DataOutOfRange w k) = stops Range
named (OutOfTurn k) = stops Turn

unfoldable pub applied : Outcome → Ruling
applied (outcome.Taken a) = takes
applied (outcome.Ignored c) = stops c

-- With n busy ticks left the head is still busy after n - 1 ticks without a word and idle after n. Until then it ignores the word by the
-- same rule.
pub record BusyFor (s : Head) (w n : ℕ) : Type 0 where
  pub still : is_busy (ticks_of (n - 1) s) ≡ true
  pub idle : is_busy (ticks_of n s) ≡ false
  pub until : (m : ℕ) → m < n → (answer_of (ticks_of m s) w).outcome ≡ outcome.Ignored Busy

unfoldable pub cover_moves : Head → Bool
cover_moves s = ltb 0 s.motion.cover

-- With n cover ticks left the cover still moves after n - 1 ticks and is at rest after n. Until then the head ignores the word by the same
-- rule, and then it would take it.
pub record CoverMovesFor (s : Head) (w n : ℕ) : Type 0 where
  pub still : cover_moves (ticks_of (n - 1) s) ≡ true
  pub rests : cover_moves (ticks_of n s) ≡ false
  pub until : (m : ℕ) → m < n → (answer_of (ticks_of m s) w).outcome ≡ outcome.Ignored CoverMoving
  pub later : (m : ℕ) → n ≤ m → (answer_of (ticks_of m s) w).outcome ≡ outcome.Taken (act.Cover (bits_of w))

-- The word named is the word given, and no kind has its identifier.
pub record NoKind (w v : ℕ) : Type 0 where
  pub given : v ≡ w
  pub unknown : decode_of w ≡ Err decode_error.Unknown

-- The word named is the word given, it is of the kind named, and its data are out of that kind's range.
pub record NotAllowed (w v k : ℕ) : Type 0 where
  pub given : v ≡ w
  pub range : decode_of w ≡ Err (decode_error.OutOfRange k)

-- The mirror word that was due: a word of its kind, with any allowed data, would have been taken in that state. Of the other mirror words
-- none would, but for SIN M, which always begins afresh.
pub record MirrorWordDue (s : Head) (k : ℕ) : Type 0 where
  pub mirror : mirror_word k ≡ true
  pub some : allowed k 0 ≡ true
  pub taken : (b : ℕ) → allowed k b ≡ true → (answer_of s (word_of k b)).outcome ≡ outcome.Taken act.None
  pub alone : (j b : ℕ) → mirror_word j ≡ true → allowed j b ≡ true → (j ≡ k → ⊥) → (j ≡ kind.sin_m → ⊥)
      → (answer_of s (word_of j b)).outcome ≡ outcome.Ignored Turn

-- What a diagnosis says of the state s and the word w.
unfoldable pub Says : Head → ℕ → Diagnosis → Type 0
Says s w Taken = applied (answer_of s w).outcome ≡ takes
Says s w StateOutOfRange = in_range s ≡ false
Says s w (HeadBusy n) = BusyFor s w n
Says s w (CoverMoves n) = CoverMovesFor s w n
Says s w (UnknownIdentifier v) = NoKind w v
Says s w (DataOutOfRange v k) = NotAllowed w v k
Says s w (OutOfTurn k) = MirrorWordDue s k
