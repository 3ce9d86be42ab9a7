-- `status::VisFlagsStatusWord::word` meets its contract.
use Rattle.std.proofs.Common.{rules}
use Rattle.bitfields.proofs.ByTable.{composed-by}
use Rattle.bitfields.proofs.Flags.{flag-number}
use Rattle.status.specs.Status.{vis_flag_fields, vis_flag_values, vis_flag_word}
use Rattle.status.proofs.Fields.{vis-flags-apart, vis-flags-below}
use Rattle.status.proofs.VisFlagsStatusWord.word.Goals as goal

pub returns : goal.returns
unfolding vis_flag_fields vis_flag_word
returns c = composed-by vis_flag_fields _ (vis_flag_values c.args.self) _ c.compose.ensures (search (rules, flag-number)) vis-flags-apart vis-flags-below
