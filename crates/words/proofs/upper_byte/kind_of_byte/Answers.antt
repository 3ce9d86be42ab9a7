-- `words::upper_byte::kind_of_byte` meets its contract: one test over the whole table.
use borrow.Author.Rules.{rules}
use Rattle.words.specs.Kinds.{kind_of, kind_from, rows}
use Rattle.words.specs.UpperByte.{kind_of_byte}
use Rattle.words.proofs.UpperByte.{byte-kind}
use Rattle.words.proofs.upper_byte.kind_of_byte.Goals as goal

pub returns : goal.returns
unfolding kind_of_byte kind_of kind_from rows
returns c = search (rules, byte-kind)
