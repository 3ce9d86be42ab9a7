-- `inspection::notes::put_cause` meets its contract.
use Rattle.inspection.proofs.Noting.{written-cause}
use Rattle.inspection.specs.Notes.{cause_template}
use Rattle.layout.specs.Numbers.{ascii}
use borrow.Author.Rules.{rules}
use Rattle.inspection.proofs.notes.put_cause.Goals as goal

pub returns : goal.returns
unfolding cause_template ascii
returns c = search (rules, written-cause)
