-- `texts::handing::put_report` meets its contract.
use borrow.Author.Rules.{rules}
use Rattle.texts.proofs.Reporting.{reported-room, reported-count, reported-small, reported-answer, reported-left, reported-state, unreported-small, unreported-left, unreported-state, unreported-answer}
use Rattle.texts.proofs.handing.put_report.Goals as goal

pub slice_bounds-made-end : goal.slice_bounds-made-end
slice_bounds-made-end c = let done = c.in-Ok.ensures in reported-room _ _ _ done.value done.out_after (search rules)

pub slice_bounds-hand_over_with-end : goal.slice_bounds-hand_over_with-end
slice_bounds-hand_over_with-end c = let done = c.in-Ok.ensures in reported-count _ _ _ done.value done.out_after (search rules)

pub hand_over_with-requires : goal.hand_over_with-requires
hand_over_with-requires c =
    let done = c.in-Ok.ensures in
    record { fact_1 = reported-small _ _ _ done.value done.out_after (search rules); fact_2 = search rules }

pub packed-requires : goal.packed-requires
packed-requires c =
    let refused = c.in-Err.ensures in
    (search rules, unreported-small _ _ c.in-Err.error c.number.ensures c.place.ensures refused.result_value_2 (search rules))

pub returns-in-Ok : goal.returns-in-Ok
returns-in-Ok c =
    let done = c.in-Ok.ensures in
    let handed = c.hand_over_with.ensures in
    record {
      value = reported-answer _ _ _ done.value done.out_after (search rules) _ c.requires c.load.ensures _ handed.value;
      text_after = reported-left _ _ _ done.value done.out_after (search rules) _ c.requires c.load.ensures _ handed.text_after;
      state_after = reported-state _ _ _ done.value done.out_after (search rules) _ c.requires c.load.ensures _ handed.state_after;
    }

pub returns-in-Err : goal.returns-in-Err
returns-in-Err c =
    let refused = c.in-Err.ensures in
    record {
      value = unreported-answer _ _ c.in-Err.error c.number.ensures c.place.ensures refused.result_value _ c.requires c.load.ensures _ refused.result_value_2 c.packed.ensures;
      text_after = unreported-left _ _ c.in-Err.error c.number.ensures c.place.ensures refused.result_value _ c.requires c.load.ensures _;
      state_after = unreported-state _ _ c.in-Err.error c.number.ensures c.place.ensures refused.result_value _ c.requires c.load.ensures _;
    }
