-- `status::VisFlagsStatusWord::in_word` meets its contract.
use Rattle.std.proofs.Common.{ap}
use Rattle.status.specs.Status.{vis_flag_fields, vis_flags_of, vis_flags_in}
use Rattle.status.proofs.VisFlagsStatusWord.in_word.Goals as goal

pub returns : goal.returns
unfolding vis_flag_fields vis_flags_in
returns c = ap vis_flags_of c.values_of-values.ensures
