-- `merge::merging` meets its contract: the sum of the two counts fits.
use borrow.Author.Rules.{rules}
use Rattle.merge.proofs.Answers.{walked-fits}
use Rattle.merge.proofs.merging.Goals as goal

pub overflow_add-short : goal.overflow_add-short
overflow_add-short c = search (rules, walked-fits)
