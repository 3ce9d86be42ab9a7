-- `head::state::Head::word` meets its contract: a state out of range is refused, any other one answers.
use Rattle.head.proofs.Numbered.{ranged, answered-number, way-state, state-number}
use borrow.Author.Rules.{rules}
use Rattle.head.proofs.state.Head.word.Goals as goal

pub returns-then-not-in_range : goal.returns-then-not-in_range
returns-then-not-in_range c = search (rules, way-state, state-number)

pub answer-requires : goal.answer-requires
answer-requires c = search (rules, ranged)

pub returns : goal.returns
returns c = search (rules, answered-number)
