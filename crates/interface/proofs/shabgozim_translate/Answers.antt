-- `interface::shabgozim_translate` meets its contract.
use Rattle.interface.proofs.Translation.{translate-ill, translate-ill-left, translate-count, translate-last, translate-answer, translate-words, translate-ticks}
use Rattle.interface.proofs.Ways.{long}
use borrow.Author.Rules.{rules}
use Rattle.interface.proofs.shabgozim_translate.Goals as goal

pub returns-then-not-well_formed : goal.returns-then-not-well_formed
returns-then-not-well_formed c = search (rules, translate-ill, translate-ill-left)

pub load-requires : goal.load-requires
load-requires c = search (rules, long)

pub translated_number-requires : goal.translated_number-requires
translated_number-requires c = search (rules, translate-count, translate-last)

pub returns : goal.returns
returns c = search (rules, translate-answer, translate-words, translate-ticks)
