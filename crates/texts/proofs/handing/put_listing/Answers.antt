-- `texts::handing::put_listing` meets its contract.
use borrow.Author.Rules.{rules}
use Rattle.texts.proofs.Listing.{listed-room, listed-count, listed_small, listed_answer, listed-left, unlisted-small, unlisted-left, unlisted-answer}
use Rattle.texts.proofs.handing.put_listing.Goals as goal

pub slice_bounds-made-end : goal.slice_bounds-made-end
slice_bounds-made-end c = let done = c.in-Ok.ensures in listed-room _ _ done.value _ done.out_after

pub slice_bounds-hand_over-end : goal.slice_bounds-hand_over-end
slice_bounds-hand_over-end c = let done = c.in-Ok.ensures in listed-count _ _ done.value _ done.out_after

pub hand_over-requires : goal.hand_over-requires
hand_over-requires c = let done = c.in-Ok.ensures in listed_small _ _ done.value _ done.out_after

pub packed-requires : goal.packed-requires
packed-requires c =
    let refused = c.in-Err.ensures in
    (search rules, unlisted-small _ _ c.in-Err.error c.number.ensures c.place.ensures refused.result_value_2 (search rules))

pub returns-in-Ok : goal.returns-in-Ok
returns-in-Ok c =
    let done = c.in-Ok.ensures in
    let handed = c.hand_over.ensures in
    record {
      value = listed_answer _ _ done.value _ done.out_after _ c.requires c.load.ensures _ handed.value;
      text_after = listed-left _ _ done.value _ done.out_after _ c.requires c.load.ensures _ handed.text_after;
    }

pub returns-in-Err : goal.returns-in-Err
returns-in-Err c =
    let refused = c.in-Err.ensures in
    record {
      value = unlisted-answer _ _ c.in-Err.error c.number.ensures c.place.ensures refused.result_value _ c.requires c.load.ensures _ refused.result_value_2 c.packed.ensures;
      text_after = unlisted-left _ _ c.in-Err.error c.number.ensures c.place.ensures refused.result_value _ c.requires c.load.ensures _;
    }
