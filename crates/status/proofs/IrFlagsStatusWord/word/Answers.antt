-- `status::IrFlagsStatusWord::word` meets its contract.
use Rattle.std.proofs.Common.{rules}
use Rattle.bitfields.proofs.ByTable.{composed-by}
use Rattle.bitfields.proofs.Flags.{flag-number}
use Rattle.status.specs.Status.{ir_flag_fields, ir_flag_values, ir_flag_word}
use Rattle.status.proofs.Fields.{ir-flags-apart, ir-flags-below}
use Rattle.status.proofs.IrFlagsStatusWord.word.Goals as goal

pub returns : goal.returns
unfolding ir_flag_fields ir_flag_word
returns c = composed-by ir_flag_fields _ (ir_flag_values c.args.self) _ c.compose.ensures (search (rules, flag-number)) ir-flags-apart ir-flags-below
