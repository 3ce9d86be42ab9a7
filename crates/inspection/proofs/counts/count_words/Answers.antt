-- `inspection::counts::count_words` meets its contract. The loop's invariant: the words from the ith on are left.
use Rattle.inspection.proofs.Counting.{none-is, counting-first, ignored-few, exposures-few, incomplete-few, moving-few, counting-next, counts_all}
use borrow.Author.Rules.{rules}
use Rattle.inspection.proofs.counts.count_words.Goals as goal

pub loop-i-init : goal.loop-i-init
loop-i-init c = search (rules, counting-first, none-is)

pub count_word-counts-requires : goal.count_word-counts-requires
count_word-counts-requires c = search (rules, ignored-few, exposures-few, incomplete-few, moving-few)

pub loop-i-preserved : goal.loop-i-preserved
loop-i-preserved c = search (rules, counting-next)

pub returns : goal.returns
returns c = search (rules, counts_all)
