-- `merged::printed::put_lists` meets its contract.
use borrow.Author.Rules.{rules}
use Rattle.merged.proofs.Merges.{lists-apart, lists-refused, lists-done, lists-after}
use Rattle.merged.proofs.printed.put_lists.Goals as goal

pub put_merge-requires-clause-fact_2 : goal.put_merge-requires-clause-fact_2
put_merge-requires-clause-fact_2 c = lists-apart _ _ c.requires c.in-Ok.ensures.value

pub returns-in-Ok-clause-value : goal.returns-in-Ok-clause-value
returns-in-Ok-clause-value c =
    let apart = lists-apart _ _ c.requires c.in-Ok.ensures.value in
    search (rules, lists-done)

pub returns-in-Ok-clause-out_after : goal.returns-in-Ok-clause-out_after
returns-in-Ok-clause-out_after c = search (rules, lists-after)

pub returns-in-Err-clause-value : goal.returns-in-Err-clause-value
returns-in-Err-clause-value c = lists-refused _ _ c.requires c.in-Err.ensures.value
