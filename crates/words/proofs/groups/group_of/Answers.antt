-- `words::groups::group_of` meets its contract: one test over the whole table.
use borrow.Author.Rules.{rules}
use Rattle.words.specs.Kinds.{group_of, rows}
use Rattle.words.proofs.Grouping.{group-past, group_at}
use Rattle.words.proofs.groups.group_of.Goals as goal

pub returns-then-kind-ge-KINDS : goal.returns-then-kind-ge-KINDS
returns-then-kind-ge-KINDS c = search (rules, group-past)

pub returns : goal.returns
unfolding group_of rows
returns c = search (rules, group_at)
