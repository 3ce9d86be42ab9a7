-- `report::report::taken_in` meets its contract.
use borrow.Author.Rules.{rules}
use Rattle.report.proofs.Taken.{taken_in-count}
use Rattle.report.proofs.report.taken_in.Goals as goal

pub returns : goal.returns
returns c = rw (taken_in-count c.args.outcomes.now) (search rules)
