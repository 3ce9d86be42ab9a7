-- `blocks::ir::IrMeaning::shown` meets its contract.
use mathlib.Core.Path.{refl}
use Rattle.blocks.specs.Ir.{ir_shown}
use Rattle.blocks.proofs.ir.IrMeaning.shown.Goals as goal

pub returns : goal.returns
unfolding ir_shown
returns c = refl
