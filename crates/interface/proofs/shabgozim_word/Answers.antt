-- `interface::shabgozim_word` meets its contract.
use Rattle.interface.proofs.Ways.{word-ill, word-left, long, word-answer, word-state}
use borrow.Author.Rules.{rules}
use Rattle.interface.proofs.shabgozim_word.Goals as goal

pub returns-then-not-well_formed : goal.returns-then-not-well_formed
returns-then-not-well_formed c = search (rules, word-ill, word-left)

pub load-requires : goal.load-requires
load-requires c = search (rules, long)

pub store-requires : goal.store-requires
store-requires c = search (rules, long)

pub returns : goal.returns
returns c = search (rules, word-answer, word-state)
