-- `registers::put_ir` meets its contract.
use Rattle.layout.specs.Numbers.{ascii}
use Rattle.registers.specs.Settings.{ir_template, ir_text}
use Rattle.layout.proofs.Filling.{adds_values}
use borrow.Author.Rules.{rules}
use Rattle.registers.proofs.put_ir.Goals as goal

pub returns : goal.returns
unfolding ir_text ir_template ascii
returns c = search (rules, adds_values)
