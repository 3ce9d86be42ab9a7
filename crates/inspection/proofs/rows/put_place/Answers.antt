-- `inspection::rows::put_place` meets its contract.
use Rattle.inspection.proofs.Wording.{written-place}
use borrow.Author.Rules.{rules}
use Rattle.inspection.proofs.rows.put_place.Goals as goal

pub returns : goal.returns
returns c = search (rules, written-place)
