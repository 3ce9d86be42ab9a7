-- `head::grid::applied` meets its contract: the grid passes the test of its rule, which gives the rule at the entry that is read.
use borrow.Author.Rules.{rules}
use Rattle.head.specs.Grid.{applies}
use Rattle.head.proofs.GridRule.{grid-rule}
use Rattle.head.proofs.grid.applied.Goals as goal

pub returns : goal.returns
unfolding applies
returns c = search (rules, grid-rule)
