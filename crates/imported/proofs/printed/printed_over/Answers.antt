-- `imported::printed::printed_over` meets its contract.
use borrow.Author.Rules.{rules}
use Rattle.layout.proofs.Adding.{adds_whole}
use Rattle.imported.proofs.Printing.{count_room, read-list, printed-done, printed-refused, printed-short}
use Rattle.imported.proofs.printed.printed_over.Goals as goal

pub inspected_first-requires : goal.inspected_first-requires
inspected_first-requires c =
    let done = c.in-Ok.ensures in
    record {
      fact_1 = count_room _ done.value (search rules);
      fact_2 = count_room _ done.value (search rules);
      fact_3 = read-list _ done.value _ _ done.words_after done.ticks_after;
    }

pub returns-in-Ok : goal.returns-in-Ok
returns-in-Ok c =
    let done = c.in-Ok.ensures in
    printed-done _ done.value _ _ done.words_after done.ticks_after c.inspected_first.ensures

pub returns-in-Err-Refused : goal.returns-in-Err-Refused
returns-in-Err-Refused c =
    let refusal = rw c.in-Err-Refused.field-0-is at c.in-Err-Refused.ensures.value in
    printed-refused _ refusal c.number.ensures (search rules) (adds_whole c.new-writer.ensures.bytes c.new-writer.ensures.start c.len.ensures c.put_refusal.ensures)

pub returns-in-Err-Short : goal.returns-in-Err-Short
returns-in-Err-Short c = printed-short _ (rw c.in-Err-Short.field-0-is at c.in-Err-Short.ensures.value)
