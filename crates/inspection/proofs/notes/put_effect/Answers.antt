-- `inspection::notes::put_effect` meets its contract.
use Rattle.inspection.proofs.Noting.{written-effect}
use Rattle.inspection.specs.Notes.{effect_template}
use Rattle.layout.specs.Numbers.{ascii}
use borrow.Author.Rules.{rules}
use Rattle.inspection.proofs.notes.put_effect.Goals as goal

pub returns : goal.returns
unfolding effect_template ascii
returns c = search (rules, written-effect)
