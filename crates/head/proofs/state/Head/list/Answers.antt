-- `head::state::Head::list` meets its contract: 21, 31, or every word given.
use Rattle.head.proofs.Numbered.{ranged}
use Rattle.head.proofs.Lists.{list-state, list-state-number, list-not, list-not-number, list-is, list-room, list_done, list-done-number, outcomes-state, outcomes-not, outcomes-done}
use borrow.Author.Rules.{rules}
use Rattle.head.proofs.state.Head.list.Goals as goal

pub returns-then-not-in_range : goal.returns-then-not-in_range
returns-then-not-in_range c = search (rules, list-state, list-state-number, outcomes-state)

pub returns-then-not-fits : goal.returns-then-not-fits
returns-then-not-fits c = search (rules, list-not, list-not-number, outcomes-not)

pub given-requires : goal.given-requires
given-requires c = search (rules, ranged, list-is, list-room)

pub returns : goal.returns
returns c = record { value = search (rules, list_done); outcomes_after = search (rules, outcomes-done, list-is); answer_value = search (rules, list-done-number) }
