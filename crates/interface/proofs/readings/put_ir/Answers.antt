-- `interface::readings::put_ir` meets its contract.
use Rattle.interface.specs.Blocks.{ir_said_numbers}
use Rattle.interface.proofs.Storing.{three-groups}
use borrow.Author.Rules.{rules}
use Rattle.interface.proofs.readings.put_ir.Goals as goal

pub returns : goal.returns
unfolding ir_said_numbers
returns c = search (rules, three-groups)
