-- `texts::two_operators::shabgozim_merge_texts` meets its contract.
use native.Mathlib.Omega.{arith}
use borrow.Author.Rules.{rules}
use Rattle.texts.proofs.TwoOperators.{made-room, made-count, made-small, made-answer, made-left, list-small, line_small, unread-answer, unread-left, same_answer}
use Rattle.texts.proofs.two_operators.shabgozim_merge_texts.Goals as goal

pub slice_bounds-made-end : goal.slice_bounds-made-end
slice_bounds-made-end c = let done = c.in-Ok.ensures in made-room _ _ done.value _ done.out_after

pub slice_bounds-hand_over-end : goal.slice_bounds-hand_over-end
slice_bounds-hand_over-end c = let done = c.in-Ok.ensures in made-count _ _ done.value _ done.out_after

pub hand_over-requires : goal.hand_over-requires
hand_over-requires c = let done = c.in-Ok.ensures in made-small _ _ done.value _ done.out_after

pub returns-in-Ok : goal.returns-in-Ok
returns-in-Ok c =
    let done = c.in-Ok.ensures in
    let handed = c.hand_over.ensures in
    record {
      value = made-answer _ _ done.value _ done.out_after _ handed.value;
      text_after = made-left _ _ done.value _ done.out_after _ handed.text_after;
    }

pub packed-requires : goal.packed-requires
packed-requires c =
    let unread = rw c.in-Err-Unread.field-0-is at c.in-Err-Unread.ensures.value in (
      omega (arith, list-small _ _ unread, c.in-Err-Unread.list-is),
      line_small _ _ unread {l = c.line.result} (cc (c.line.ensures, c.in-Err-Unread.error-is)),
    )

pub returns-in-Err-Unread-clause-value : goal.returns-in-Err-Unread-clause-value
returns-in-Err-Unread-clause-value c =
    let unread = rw c.in-Err-Unread.field-0-is at c.in-Err-Unread.ensures.value in
    unread-answer _ _ unread _ {n = c.number.result} (cc (c.number.ensures, c.in-Err-Unread.error-is)) {l = c.line.result}
    (cc (c.line.ensures, c.in-Err-Unread.error-is))
    (omega (arith, c.packed.ensures, c.in-Err-Unread.list-is))

pub returns-in-Err-Unread-clause-text_after : goal.returns-in-Err-Unread-clause-text_after
returns-in-Err-Unread-clause-text_after c = unread-left _ _ c.in-Err-Unread.ensures.value _

pub returns-in-Err-SameTick-clause-value : goal.returns-in-Err-SameTick-clause-value
returns-in-Err-SameTick-clause-value c =
    let same = rw c.in-Err-SameTick.field-0-is at c.in-Err-SameTick.ensures.value in
    search (rules, same_answer)

pub returns-in-Err-SameTick-clause-text_after : goal.returns-in-Err-SameTick-clause-text_after
returns-in-Err-SameTick-clause-text_after c = unread-left _ _ c.in-Err-SameTick.ensures.value _
