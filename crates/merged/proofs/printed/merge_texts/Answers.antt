-- `merged::printed::merge_texts` meets its contract.
use Rattle.merged.proofs.Answers.{texts-number, first-unread, second-unread, count-few, count_long, lists-mergeable, merged-answer, merged-after}
use Rattle.merged.proofs.printed.merge_texts.Goals as goal

pub returns-in-Err-clause-result_value : goal.returns-in-Err-clause-result_value
returns-in-Err-clause-result_value c = texts-number _ _ (first-unread _ _ c.in-Err.ensures.value)

pub returns-in-Err-read_entries-clause-result_value : goal.returns-in-Err-read_entries-clause-result_value
returns-in-Err-read_entries-clause-result_value c =
    texts-number _ _ (second-unread _ _ c.in-Ok.ensures.value c.in-Err-read_entries.ensures.value)

pub slice_bounds-ccd_list-end : goal.slice_bounds-ccd_list-end
slice_bounds-ccd_list-end c = count-few _ c.in-Ok.ensures.value _ c.in-Ok.ensures.list_after

pub slice_bounds-put_lists-end : goal.slice_bounds-put_lists-end
slice_bounds-put_lists-end c = count_long _ c.in-Ok.ensures.value _ c.in-Ok.ensures.list_after

pub slice_bounds-infrared_list-end : goal.slice_bounds-infrared_list-end
slice_bounds-infrared_list-end c = count-few _ c.in-Ok-read_entries.ensures.value _ c.in-Ok-read_entries.ensures.list_after

pub slice_bounds-put_lists-end-2 : goal.slice_bounds-put_lists-end-2
slice_bounds-put_lists-end-2 c = count_long _ c.in-Ok-read_entries.ensures.value _ c.in-Ok-read_entries.ensures.list_after

pub put_lists-requires : goal.put_lists-requires
put_lists-requires c =
    let first = c.in-Ok.ensures in
    let second = c.in-Ok-read_entries.ensures in
    lists-mergeable _ _ first.value _ first.list_after second.value _ second.list_after

pub returns-clause-result_value : goal.returns-clause-result_value
returns-clause-result_value c =
    let first = c.in-Ok.ensures in
    let second = c.in-Ok-read_entries.ensures in
    texts-number _ _ (merged-answer _ _ first.value _ first.list_after second.value _ second.list_after c.put_lists.ensures.value)

pub returns-clause-out_after : goal.returns-clause-out_after
returns-clause-out_after c =
    let first = c.in-Ok.ensures in
    let second = c.in-Ok-read_entries.ensures in
    merged-after _ _ first.value _ first.list_after second.value _ second.list_after _ _ c.put_lists.ensures.out_after
