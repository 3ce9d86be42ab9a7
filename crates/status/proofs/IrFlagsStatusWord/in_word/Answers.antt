-- `status::IrFlagsStatusWord::in_word` meets its contract.
use Rattle.std.proofs.Common.{ap}
use Rattle.status.specs.Status.{ir_flag_fields, ir_flags_of, ir_flags_in}
use Rattle.status.proofs.IrFlagsStatusWord.in_word.Goals as goal

pub returns : goal.returns
unfolding ir_flag_fields ir_flags_in
returns c = ap ir_flags_of c.values_of-values.ensures
