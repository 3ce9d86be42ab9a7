-- `words::allows` meets its contract: a number that is no kind, and a kind by its least and greatest data.
use borrow.Author.Rules.{rules}
use Rattle.words.proofs.Allowed.{allowed-none, allowed-by}
use Rattle.words.proofs.allows.Goals as goal

pub returns-then-kind-ge-KINDS : goal.returns-then-kind-ge-KINDS
returns-then-kind-ge-KINDS c = search (rules, allowed-none)

pub returns : goal.returns
returns c = search (rules, allowed-by)
