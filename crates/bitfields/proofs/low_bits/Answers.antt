-- `bitfields::low_bits` meets its contract.
use Rattle.std.proofs.Common.{rules}
use Rattle.bitfields.proofs.Shifts.{all-kept, kept}
use Rattle.bitfields.proofs.low_bits.Goals as goal

pub returns-then-width-ge-WORD_BITS : goal.returns-then-width-ge-WORD_BITS
returns-then-width-ge-WORD_BITS c = search (rules, all-kept)

pub returns : goal.returns
returns c = search (rules, kept)
