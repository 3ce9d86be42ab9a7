-- `words::encode` meets its contract: the table of identifiers agrees with the first word of each kind's row, and allowed data have
-- ten bits, so that the word fits.
use mathlib.Core.Path.{◌∙◌, sym}
use borrow.Author.Rules.{rules}
use Rattle.words.specs.Kinds.{rows}
use Rattle.words.proofs.Allowed.{allowed-kind}
use Rattle.words.proofs.Codec.{encode-made, encode-refused, encode-fits, identifier-fits, encoding-number}
use Rattle.words.proofs.encode.Goals as goal

pub bounds-kind : goal.bounds-kind
bounds-kind c = allowed-kind _ _ (sym c.allows.ensures ∙ c.if-allows.true)

pub overflow_mul-result : goal.overflow_mul-result
overflow_mul-result c = search (rules, identifier-fits)

pub overflow_add-result : goal.overflow_add-result
overflow_add-result c = search (rules, encode-fits)

pub returns-then-allows : goal.returns-then-allows
unfolding rows
returns-then-allows c = search (rules, encode-made, encoding-number)

pub returns-else-allows : goal.returns-else-allows
unfolding rows
returns-else-allows c = search (rules, encode-refused, encoding-number)
