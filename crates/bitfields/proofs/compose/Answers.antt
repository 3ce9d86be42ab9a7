-- `bitfields::compose` meets its contract: the loop's pairs are the rows and the values at one place each.
use Rattle.std.proofs.Common.{◌^◌, length, arith, rules, length-append}
use Rattle.std.proofs.lemmas.Slice.Zip.{zip_turn, zip_end}
use Rattle.bitfields.specs.Fields.{field, word_bits}
use Rattle.bitfields.proofs.Rows.{turn, ended}
use Rattle.bitfields.proofs.compose.Goals as goal

pub loop-field-preserved : goal.loop-field-preserved
loop-field-preserved c =
    let fs = c.args.fields.now in
    let vs = c.args.values.now in
    let h =
    zip_turn fs vs c.loop-field.yielded c.into_iter-field-iterator.result c.loop-field.field-iterator c.next.new.self c.next.result (search rules) (search rules) c.loop-field.yielded_by (c.in-Some.field, c.in-Some.value) (search rules) (search rules) in
    let row = h.2 (field 0 0) in
    let value = h.3 0 in
    simp length-append
    (turn (2 ^ word_bits) fs vs (length c.loop-field.yielded) c.loop-field.word c.placed-word.result _ _ h.0 h.1 c.loop-field.invariant (rw (row, value) at c.placed-word.ensures) (search rules))

pub returns : goal.returns
returns c =
    let fs = c.args.fields.now in
    let vs = c.args.values.now in
    let h =
    zip_end fs vs c.loop-field.yielded c.into_iter-field-iterator.result c.loop-field.field-iterator c.next.new.self c.next.result (search rules) (search rules) c.loop-field.yielded_by (search rules) (search rules) in
    ended (2 ^ word_bits) fs vs _ c.loop-field.word _ h c.loop-field.invariant (omega arith)
