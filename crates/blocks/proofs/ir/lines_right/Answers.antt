-- `blocks::ir::lines_right` meets its contract.
use mathlib.Core.Path.{refl}
use Rattle.blocks.proofs.ir.lines_right.Goals as goal

pub returns : goal.returns
returns c = refl
