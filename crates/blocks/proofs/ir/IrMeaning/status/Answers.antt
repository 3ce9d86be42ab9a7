-- `blocks::ir::IrMeaning::status` meets its contract.
use Rattle.blocks.specs.Ir.{ir_status}
use Rattle.blocks.proofs.ir.IrMeaning.status.Goals as goal

pub returns : goal.returns
unfolding ir_status
returns c = rw (c.word-2.ensures, c.word.ensures, c.choose-2.ensures, c.choose.ensures)
