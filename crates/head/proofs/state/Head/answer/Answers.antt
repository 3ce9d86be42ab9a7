-- `head::state::Head::answer` meets its contract: the answer found by the phase and the grid is `answer_of`.
use Rattle.head.proofs.Findings.{way-finding, way-grid, word-kind, word-bits}
use borrow.Author.Rules.{rules}
use Rattle.head.proofs.state.Head.answer.Goals as goal

pub returns-in_default : goal.returns-in_default
returns-in_default c = search (rules, way-finding)

pub invariant_of-known_word : goal.invariant_of-known_word
invariant_of-known_word c = record { a_kind = search (rules, word-kind); ten_bits = search (rules, word-bits) }

pub returns : goal.returns
returns c = search (rules, way-grid)
