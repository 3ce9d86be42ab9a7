-- `inspection::inspection::put_last_settings` meets its contract.
use Rattle.inspection.specs.Inspection.{settings_template, last_settings}
use Rattle.layout.proofs.Adding.{adds_then}
use Rattle.layout.specs.Numbers.{ascii}
use borrow.Author.Rules.{rules}
use Rattle.inspection.proofs.inspection.put_last_settings.Goals as goal

pub returns : goal.returns
unfolding last_settings settings_template ascii
returns c = search (rules, adds_then)
