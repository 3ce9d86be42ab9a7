-- `interface::shabgozim_read_ccd` meets its contract.
use Rattle.interface.proofs.Reading.{ccd-reader, readings-there, unfit-answer, unfit-left, place, refused-answer, refused-left, said-answer, said-left}
use borrow.Author.Rules.{rules}
use Rattle.std.proofs.lemmas.List.{length-take-le}
use Rattle.interface.proofs.shabgozim_read_ccd.Goals as goal

pub returns-then-numbers-ne-CCD_NUMBERS : goal.returns-then-numbers-ne-CCD_NUMBERS
returns-then-numbers-ne-CCD_NUMBERS c = search (rules, unfit-answer ccd-reader, unfit-left ccd-reader)

pub refused_number-requires : goal.refused_number-requires
refused_number-requires c = search (rules, place ccd-reader)

pub slice_bounds-put_ccd-end : goal.slice_bounds-put_ccd-end
slice_bounds-put_ccd-end c = search (rules, readings-there ccd-reader)

pub put_ccd-requires-clause-first_long : goal.put_ccd-requires-clause-first_long
put_ccd-requires-clause-first_long c = search (rules, length-take-le, readings-there ccd-reader)

pub returns-in-Ok : goal.returns-in-Ok
returns-in-Ok c = search (rules, said-answer ccd-reader, said-left ccd-reader)

pub returns-in-Err : goal.returns-in-Err
returns-in-Err c = search (rules, refused-answer ccd-reader, refused-left ccd-reader)
