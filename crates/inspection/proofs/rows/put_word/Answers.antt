-- `inspection::rows::put_word` meets its contract.
use Rattle.inspection.proofs.Wording.{written-word}
use borrow.Author.Rules.{rules}
use Rattle.inspection.proofs.rows.put_word.Goals as goal

pub returns : goal.returns
returns c = search (rules, written-word)
