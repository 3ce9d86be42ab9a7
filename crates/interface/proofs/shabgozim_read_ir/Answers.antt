-- `interface::shabgozim_read_ir` meets its contract.
use Rattle.interface.proofs.Reading.{ir-reader, readings-there, unfit-answer, unfit-left, place, refused-answer, refused-left, said-answer, said-left}
use borrow.Author.Rules.{rules}
use Rattle.std.proofs.lemmas.List.{length-take-le}
use Rattle.interface.proofs.shabgozim_read_ir.Goals as goal

pub returns-then-numbers-ne-IR_NUMBERS : goal.returns-then-numbers-ne-IR_NUMBERS
returns-then-numbers-ne-IR_NUMBERS c = search (rules, unfit-answer ir-reader, unfit-left ir-reader)

pub refused_number-requires : goal.refused_number-requires
refused_number-requires c = search (rules, place ir-reader)

pub slice_bounds-put_ir-end : goal.slice_bounds-put_ir-end
slice_bounds-put_ir-end c = search (rules, readings-there ir-reader)

pub put_ir-requires-clause-first_long : goal.put_ir-requires-clause-first_long
put_ir-requires-clause-first_long c = search (rules, length-take-le, readings-there ir-reader)

pub returns-in-Ok : goal.returns-in-Ok
returns-in-Ok c = search (rules, said-answer ir-reader, said-left ir-reader)

pub returns-in-Err : goal.returns-in-Err
returns-in-Err c = search (rules, refused-answer ir-reader, refused-left ir-reader)
