-- `inspection::meaning::put_value` meets its contract.
use Rattle.inspection.proofs.Meanings.{written-value}
use Rattle.inspection.specs.Meaning.{data_template}
use Rattle.layout.specs.Numbers.{ascii}
use borrow.Author.Rules.{rules}
use Rattle.inspection.proofs.meaning.put_value.Goals as goal

pub returns : goal.returns
unfolding data_template ascii
returns c = search (rules, written-value)
