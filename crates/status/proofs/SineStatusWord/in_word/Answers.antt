-- `status::SineStatusWord::in_word` meets its contract.
use Rattle.std.proofs.Common.{ap}
use Rattle.status.specs.Status.{sine_fields, sine_of, sine_in}
use Rattle.status.proofs.SineStatusWord.in_word.Goals as goal

pub returns : goal.returns
unfolding sine_fields sine_in
returns c = ap sine_of c.values_of-values.ensures
