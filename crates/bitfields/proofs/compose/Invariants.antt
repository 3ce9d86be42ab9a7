-- `bitfields::compose` meets its contract. The loop's invariant: what is composed so far, and what is from this row on, make the word.
use Rattle.std.proofs.Common.{◌≡◌, ◌+◌, ◌%◌, ◌^◌, length}
use Rattle.bitfields.specs.Fields.{composed, word_bits}
use Rattle.bitfields.proofs.Rows.{from}
use Rattle.bitfields.proofs.compose.Given as goal

abbrev pub invariant-loop-field : goal.invariant-loop-field
invariant-loop-field l =
    (l.word + from l.fields l.values (length l.yielded)) % 2 ^ word_bits ≡ composed l.fields l.values % 2 ^ word_bits
