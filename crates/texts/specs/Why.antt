-- An answer of `shabgozim_why` in words (document 02, request P7).
-- Assumes nothing.
use Rattle.std.specs.Prelude.{ℕ, ◌/◌, ◌%◌, Bool, cond, eqb, leb}
use Rattle.words.specs.Kinds.{identifier, kind_of}
use Rattle.diagnosis.specs.declared.Diagnosis.{Diagnosis}
use Rattle.diagnosis.specs.declared.Diagnosis.TheVariants.{Taken, StateOutOfRange, HeadBusy, CoverMoves, UnknownIdentifier, DataOutOfRange, OutOfTurn}
use Rattle.interface.specs.Why.{packed_why}

-- The diagnosis that an answer stands for; of a number that is none, some diagnosis.
unfoldable pub unpacked_why : ℕ → Diagnosis
unpacked_why a =
    let number = a % 0x100 in
    let detail = a / 0x100 % 0x10000 in
    cond (eqb number 21) StateOutOfRange
    (cond (eqb number 22) (cond (leb 0x80000000 a) (CoverMoves detail) (HeadBusy detail))
    (cond (eqb number 23) (UnknownIdentifier detail)
    (cond (eqb number 24) (DataOutOfRange detail (kind_of (identifier detail)))
    (cond (eqb number 25) (OutOfTurn (detail % 0x100)) Taken))))

-- A number has the form of an answer where packing gives it back.
unfoldable pub is_why : ℕ → Bool
is_why a = eqb (packed_why (unpacked_why a)) a
