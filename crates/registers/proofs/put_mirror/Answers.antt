-- `registers::put_mirror` meets its contract.
use Rattle.layout.specs.Numbers.{ascii}
use Rattle.registers.specs.Settings.{mirror_template, mirror_text}
use Rattle.layout.proofs.Filling.{adds_values}
use borrow.Author.Rules.{rules}
use Rattle.registers.proofs.put_mirror.Goals as goal

pub returns : goal.returns
unfolding mirror_text mirror_template ascii
returns c = search (rules, adds_values)
