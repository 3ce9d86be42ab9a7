-- `registers::put_ccd` meets its contract.
use Rattle.layout.specs.Numbers.{ascii}
use Rattle.registers.specs.Settings.{ccd_template, ccd_text}
use Rattle.layout.proofs.Filling.{adds_values}
use borrow.Author.Rules.{rules}
use Rattle.registers.proofs.put_ccd.Goals as goal

pub returns : goal.returns
unfolding ccd_text ccd_template ascii
returns c = search (rules, adds_values)
