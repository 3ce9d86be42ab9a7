-- `requests::first_from` meets its contract.
use borrow.Author.Rules.{rules}
use Rattle.requests.proofs.Rows.{first-here, first-later, first-none}
use Rattle.requests.proofs.first_from.Goals as goal

pub returns-then-is_word_of : goal.returns-then-is_word_of
returns-then-is_word_of c = search (rules, first-here)

pub loop-i-preserved : goal.loop-i-preserved
loop-i-preserved c = search (rules, first-later)

pub returns : goal.returns
returns c = search (rules, first-none)
