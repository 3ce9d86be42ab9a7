-- `status::LampShutterStatusWord::in_word` meets its contract.
use Rattle.std.proofs.Common.{ap}
use Rattle.status.specs.Status.{lamp_shutter_fields, lamp_shutter_of, lamp_shutter_in}
use Rattle.status.proofs.LampShutterStatusWord.in_word.Goals as goal

pub returns : goal.returns
unfolding lamp_shutter_fields lamp_shutter_in
returns c = ap lamp_shutter_of c.values_of-values.ensures
