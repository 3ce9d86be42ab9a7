-- `words::meaning` meets its contract: each way through the code is a law of `Codec`.
use borrow.Author.Rules.{rules}
use Rattle.words.proofs.Codec.{meaning-unknown, meaning-word, meaning-out}
use Rattle.words.proofs.meaning.Goals as goal

pub returns-then-kind-ge-KINDS : goal.returns-then-kind-ge-KINDS
returns-then-kind-ge-KINDS c = search (rules, meaning-unknown)

pub returns-then-allows : goal.returns-then-allows
returns-then-allows c = search (rules, meaning-word)

pub returns-else-allows : goal.returns-else-allows
returns-else-allows c = search (rules, meaning-out)
