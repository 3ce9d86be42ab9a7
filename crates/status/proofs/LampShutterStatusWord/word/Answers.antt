-- `status::LampShutterStatusWord::word` meets its contract.
use Rattle.std.proofs.Common.{rules}
use Rattle.bitfields.proofs.ByTable.{composed-by}
use Rattle.bitfields.proofs.Flags.{flag-number}
use Rattle.status.specs.Status.{lamp_shutter_fields, lamp_shutter_values, lamp_shutter_word}
use Rattle.status.proofs.Fields.{lamp-shutter-apart, lamp-shutter-below}
use Rattle.status.proofs.LampShutterStatusWord.word.Goals as goal

pub returns : goal.returns
unfolding lamp_shutter_fields lamp_shutter_word
returns c = composed-by lamp_shutter_fields _ (lamp_shutter_values c.args.self) _ c.compose.ensures (search (rules, flag-number)) lamp-shutter-apart lamp-shutter-below
