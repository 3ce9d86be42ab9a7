-- `status::SineStatusWord::word` meets its contract.
use Rattle.std.proofs.Common.{rules}
use Rattle.bitfields.proofs.ByTable.{composed-by}
use Rattle.bitfields.proofs.Flags.{flag-number}
use Rattle.status.specs.Status.{sine_fields, sine_values, sine_word}
use Rattle.status.proofs.Fields.{sine-apart, sine-below}
use Rattle.status.proofs.SineStatusWord.word.Goals as goal

pub returns : goal.returns
unfolding sine_fields sine_word
returns c = composed-by sine_fields _ (sine_values c.args.self) _ c.compose.ensures (search (rules, flag-number)) sine-apart sine-below
