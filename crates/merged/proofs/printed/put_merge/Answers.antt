-- `merged::printed::put_merge` meets its contract.
use Rattle.merged.proofs.Merges.{rest-few, part_count, merge-written}
use borrow.Author.Rules.{rules}
use Rattle.merged.proofs.printed.put_merge.Goals as goal

pub overflow_sub-count : goal.overflow_sub-count
overflow_sub-count c = search (rules, rest-few)

pub slice_bounds-write_parts-end : goal.slice_bounds-write_parts-end
slice_bounds-write_parts-end c = search (rules, part_count)

pub returns : goal.returns
returns c = search (rules, merge-written)
