-- `words::upper_byte::decode_by_byte` meets its contract: a word's kind is that of its upper byte.
use borrow.Author.Rules.{rules}
use Rattle.words.proofs.Codec.{finding-number}
use Rattle.words.proofs.UpperByte.{meaning-by-byte}
use Rattle.words.proofs.upper_byte.decode_by_byte.Goals as goal

pub returns : goal.returns
returns c = search (rules, finding-number, meaning-by-byte)
