-- `bitfields::values_of` meets its contract.
use Rattle.std.proofs.Common.{arith}
use Rattle.bitfields.proofs.Rows.{read-whole}
use Rattle.bitfields.proofs.values_of.Goals as goal

pub returns : goal.returns
returns g c = read-whole c.args.fields.now c.args.word _ _ (omega arith) c.values_in.ensures
