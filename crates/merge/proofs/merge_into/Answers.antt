-- `merge::merge_into` meets its contract: there is room for a merged part that is told.
use borrow.Author.Rules.{rules}
use Rattle.merge.proofs.Answers.{part-room}
use Rattle.merge.proofs.merge_into.Goals as goal

pub write-requires : goal.write-requires
write-requires c = search (rules, part-room)
