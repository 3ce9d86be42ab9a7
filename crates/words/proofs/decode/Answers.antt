-- `words::decode` meets its contract: each way through the code is a law of `Codec`.
use borrow.Author.Rules.{rules}
use Rattle.words.proofs.Codec.{decode-unknown, decode-word, decode-out, finding-number}
use Rattle.words.proofs.decode.Goals as goal

pub returns-then-kind-ge-KINDS : goal.returns-then-kind-ge-KINDS
returns-then-kind-ge-KINDS c = search (rules, decode-unknown, finding-number)

pub returns-then-allows : goal.returns-then-allows
returns-then-allows c = search (rules, decode-word, finding-number)

pub returns-else-allows : goal.returns-else-allows
returns-else-allows c = search (rules, decode-out, finding-number)
