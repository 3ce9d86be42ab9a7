-- `bitfields::values_in` meets its contract. The loop's invariant: the values before this place are stored, and the other places are as
-- they were.
use Rattle.std.proofs.Common.{◌≡◌, length}
use lib.Seq.{paste}
use Rattle.bitfields.specs.Fields.{values_in}
use Rattle.bitfields.proofs.values_in.Given as goal

abbrev pub invariant-loop-place : goal.invariant-loop-place
invariant-loop-place l =
    (l.values ≡ paste l.initial.values 0 (values_in l.fields l.word) l.place) × (length l.values ≡ length l.initial.values)
