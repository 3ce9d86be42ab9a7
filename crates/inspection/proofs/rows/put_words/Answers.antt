-- `inspection::rows::put_words` meets its contract. The loop's invariant: the words from the ith on are left.
use Rattle.inspection.proofs.Wording.{wording-first, wording-ticks, wording-line, wording-next, worded}
use borrow.Author.Rules.{rules}
use Rattle.inspection.proofs.rows.put_words.Goals as goal

pub loop-i-init : goal.loop-i-init
loop-i-init c = search (rules, wording-first)

pub overflow_add-i : goal.overflow_add-i
overflow_add-i c = search (rules, wording-line)

pub offset_bounds-list-i : goal.offset_bounds-list-i
offset_bounds-list-i c = search (rules, wording-ticks)

pub bounds-list-i : goal.bounds-list-i
bounds-list-i c = search (rules, wording-ticks)

pub loop-i-preserved : goal.loop-i-preserved
loop-i-preserved c = search (rules, wording-next)

pub returns : goal.returns
returns c = search (rules, worded)
