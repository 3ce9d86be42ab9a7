-- What `shabgozim_why` answers (document 02, request P7): a diagnosis packed into one number of 32 bits.
-- Assumes nothing.
use Rattle.std.specs.Prelude.{ℕ, ◌+◌, ◌*◌, cond, List}
use Rattle.head.specs.Row.{state_of}
use Rattle.diagnosis.specs.Diagnosis.{diagnosis_of, diagnosis_number}
use Rattle.diagnosis.specs.declared.Diagnosis.{Diagnosis}
use Rattle.diagnosis.specs.declared.Diagnosis.TheVariants.{Taken, StateOutOfRange, HeadBusy, CoverMoves, UnknownIdentifier, DataOutOfRange, OutOfTurn}
use Rattle.interface.specs.State.{well_formed}
use Rattle.interface.specs.Stepping.{state_refused}

-- From bit 8 on: for 22 the ticks left, for 23 and 24 the word, for 25 the kind of the mirror word that was due. Bit 31 is set where 22 is
-- the moving cover.
unfoldable pub detail_bits : Diagnosis → ℕ
detail_bits Taken = 0
detail_bits StateOutOfRange = 0
detail_bits (HeadBusy n) = 0x100 * n
detail_bits (CoverMoves n) = 0x80000000 + 0x100 * n
detail_bits (UnknownIdentifier w) = 0x100 * w
detail_bits (DataOutOfRange w k) = 0x100 * w
detail_bits (OutOfTurn k) = 0x100 * k

-- The number in bits 0-7.
unfoldable pub packed_why : Diagnosis → ℕ
packed_why d = diagnosis_number d + detail_bits d

-- An array that is not well formed is refused with 21, as for a word.
unfoldable pub why_answer : List ℕ → ℕ → ℕ
why_answer l w = cond (well_formed l) (packed_why (diagnosis_of (state_of l) w)) state_refused
