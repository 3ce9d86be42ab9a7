-- `registers::put_lamps` meets its contract.
use Rattle.layout.specs.Numbers.{ascii}
use Rattle.registers.specs.Settings.{lamps_template, lamps_text}
use Rattle.layout.proofs.Filling.{adds_values}
use borrow.Author.Rules.{rules}
use Rattle.registers.proofs.put_lamps.Goals as goal

pub returns : goal.returns
unfolding lamps_text lamps_template ascii
returns c = search (rules, adds_values)
