-- `head::state::Head::tick` meets its contract.
use Rattle.head.proofs.Numbered.{way-passed, passed-number, way-refused, refused-number}
use borrow.Author.Rules.{rules}
use Rattle.head.proofs.state.Head.tick.Goals as goal

pub returns-then-in_range : goal.returns-then-in_range
returns-then-in_range c = search (rules, way-passed, passed-number)

pub returns : goal.returns
returns c = search (rules, way-refused, refused-number)
