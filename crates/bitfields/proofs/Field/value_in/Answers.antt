-- `bitfields::Field::value_in` meets its contract.
use Rattle.std.proofs.Common.{rules}
use Rattle.bitfields.proofs.Shifts.{nothing_above}
use Rattle.bitfields.proofs.Field.value_in.Goals as goal

pub returns-then-lowest-ge-WORD_BITS : goal.returns-then-lowest-ge-WORD_BITS
returns-then-lowest-ge-WORD_BITS c = search (rules, nothing_above)
