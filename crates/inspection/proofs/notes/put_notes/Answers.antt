-- `inspection::notes::put_notes` meets its contract.
use Rattle.inspection.proofs.Noting.{written-notes}
use borrow.Author.Rules.{rules}
use Rattle.inspection.proofs.notes.put_notes.Goals as goal

pub returns : goal.returns
returns c = search (rules, written-notes)
