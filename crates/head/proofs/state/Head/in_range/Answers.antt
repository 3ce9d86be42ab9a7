-- `head::state::Head::in_range` meets its contract: what is asked of the row is `in_range`.
use Rattle.words.specs.Kinds.{rows, least}
use Rattle.head.proofs.RowRange.{range-by}
use borrow.Author.Rules.{rules}
use Rattle.head.proofs.state.Head.in_range.Goals as goal

pub returns : goal.returns
unfolding least rows
returns c = search (rules, range-by)
