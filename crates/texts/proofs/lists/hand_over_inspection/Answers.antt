-- `texts::lists::hand_over_inspection` meets its contract.
use borrow.Author.Rules.{rules}
use Rattle.texts.proofs.Reading.{inspected-room, inspected-count, inspected-small, findings-small, inspected-answer, inspected-left, uninspected-answer, uninspected-left}
use Rattle.texts.proofs.lists.hand_over_inspection.Goals as goal

pub slice_bounds-hand_over_counted-end : goal.slice_bounds-hand_over_counted-end
slice_bounds-hand_over_counted-end c = let done = c.in-Ok.ensures in inspected-room _ _ _ done.value c.requires done.out_after

pub slice_bounds-hand_over_counted-end-in-Ok : goal.slice_bounds-hand_over_counted-end-in-Ok
slice_bounds-hand_over_counted-end-in-Ok c = let done = c.in-Ok.ensures in inspected-count _ _ _ done.value c.requires done.out_after

pub hand_over_counted-requires : goal.hand_over_counted-requires
hand_over_counted-requires c =
    let done = c.in-Ok.ensures in
    record {
      fact_1 = inspected-small _ _ _ done.value c.requires done.out_after;
      fact_2 = findings-small _ _ _ done.value c.requires done.out_after c.findings-findings.ensures;
    }

pub returns-in-Ok : goal.returns-in-Ok
returns-in-Ok c =
    let done = c.in-Ok.ensures in
    let handed = c.hand_over_counted.ensures in
    record {
      value = inspected-answer _ _ _ done.value c.requires done.out_after _ c.findings-findings.ensures handed.value;
      text_after = inspected-left _ _ _ done.value c.requires done.out_after _ handed.text_after;
    }

pub returns-in-Err : goal.returns-in-Err
returns-in-Err c =
    record {
      value = uninspected-answer _ _ _ c.in-Err.ensures.value _ c.number.ensures c.packed.ensures;
      text_after = uninspected-left _ _ _ c.in-Err.ensures.value _;
    }
