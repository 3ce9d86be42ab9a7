-- `import::line::value` meets its contract.
use borrow.Author.Rules.{rules}
use Rattle.import.proofs.Counting.{counting-next, counted}
use Rattle.import.proofs.line.value.Goals as goal

pub loop-digit-preserved : goal.loop-digit-preserved
loop-digit-preserved c = search (rules, counting-next)

pub returns : goal.returns
returns c = search (rules, counted)
