-- `bitfields::values_in` meets its contract.
use Rattle.std.proofs.Common.{rules, length-set}
use Rattle.bitfields.proofs.Rows.{read-turn}
use Rattle.bitfields.proofs.values_in.Goals as goal

pub loop-place-preserved : goal.loop-place-preserved
loop-place-preserved c = search (rules, read-turn, length-set)
