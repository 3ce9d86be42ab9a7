-- `registers::put_settings` meets its contract: the groups one after another.
use Rattle.layout.proofs.Adding.{adds_four}
use Rattle.registers.specs.Settings.{settings_text}
use borrow.Author.Rules.{rules}
use Rattle.registers.proofs.put_settings.Goals as goal

pub returns : goal.returns
unfolding settings_text
returns c = search (rules, adds_four)
