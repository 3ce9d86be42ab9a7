-- `bitfields::Field::placed` meets its contract.
use Rattle.std.proofs.Common.{rules}
use Rattle.bitfields.proofs.Shifts.{lost}
use Rattle.bitfields.proofs.Field.placed.Goals as goal

pub returns-then-lowest-ge-WORD_BITS : goal.returns-then-lowest-ge-WORD_BITS
returns-then-lowest-ge-WORD_BITS c = search (rules, lost)
