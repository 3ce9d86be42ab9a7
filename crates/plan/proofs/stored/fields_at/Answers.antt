-- `plan::stored::fields_at` meets its contract.
use native.Mathlib.Omega.{arith}
use Rattle.plan.proofs.Bytes.{field-value, field_past, field-reach, fields_read}
use Rattle.plan.proofs.stored.fields_at.Goals as goal

pub returns-then-count-eq0 : goal.returns-then-count-eq0
returns-then-count-eq0 c =
    let a = c.args in
    let w = c.width_of-wide.ensures in
    let n = c.count_of-count.ensures in
    fields_read a.plan.now a.at a.code w n (field_past a.plan.now a.at a.code w n (omega arith)) (field_past a.plan.now a.at a.code w n (omega arith)) (field_past a.plan.now a.at a.code w n (omega arith)) (field_past a.plan.now a.at a.code w n (omega arith))

pub value_at-requires : goal.value_at-requires
value_at-requires c =
    let a = c.args in
    let w = c.width_of-wide.ensures in
    let n = c.count_of-count.ensures in
    field-reach a.plan.now a.at a.code w n 0 c.requires (omega arith)

pub returns-then-count-eq1 : goal.returns-then-count-eq1
returns-then-count-eq1 c =
    let a = c.args in
    let w = c.width_of-wide.ensures in
    let n = c.count_of-count.ensures in
    fields_read a.plan.now a.at a.code w n (field-value a.plan.now a.at a.code w n (omega arith) c.value_at.ensures) (field_past a.plan.now a.at a.code w n (omega arith)) (field_past a.plan.now a.at a.code w n (omega arith)) (field_past a.plan.now a.at a.code w n (omega arith))

pub value_at-requires-2 : goal.value_at-requires-2
value_at-requires-2 c =
    let a = c.args in
    let w = c.width_of-wide.ensures in
    let n = c.count_of-count.ensures in
    field-reach a.plan.now a.at a.code w n 1 c.requires (omega arith)

pub returns-then-count-eq2 : goal.returns-then-count-eq2
returns-then-count-eq2 c =
    let a = c.args in
    let w = c.width_of-wide.ensures in
    let n = c.count_of-count.ensures in
    fields_read a.plan.now a.at a.code w n (field-value a.plan.now a.at a.code w n (omega arith) c.value_at.ensures) (field-value a.plan.now a.at a.code w n (omega arith) c.value_at-2.ensures) (field_past a.plan.now a.at a.code w n (omega arith)) (field_past a.plan.now a.at a.code w n (omega arith))

pub value_at-requires-3 : goal.value_at-requires-3
value_at-requires-3 c =
    let a = c.args in
    let w = c.width_of-wide.ensures in
    let n = c.count_of-count.ensures in
    field-reach a.plan.now a.at a.code w n 2 c.requires (omega arith)

pub returns-then-count-eq3 : goal.returns-then-count-eq3
returns-then-count-eq3 c =
    let a = c.args in
    let w = c.width_of-wide.ensures in
    let n = c.count_of-count.ensures in
    fields_read a.plan.now a.at a.code w n (field-value a.plan.now a.at a.code w n (omega arith) c.value_at.ensures) (field-value a.plan.now a.at a.code w n (omega arith) c.value_at-2.ensures) (field-value a.plan.now a.at a.code w n (omega arith) c.value_at-3.ensures) (field_past a.plan.now a.at a.code w n (omega arith))

pub value_at-requires-4 : goal.value_at-requires-4
value_at-requires-4 c =
    let a = c.args in
    let w = c.width_of-wide.ensures in
    let n = c.count_of-count.ensures in
    field-reach a.plan.now a.at a.code w n 3 c.requires (omega arith)

pub returns : goal.returns
returns c =
    let a = c.args in
    let w = c.width_of-wide.ensures in
    let n = c.count_of-count.ensures in
    fields_read a.plan.now a.at a.code w n (field-value a.plan.now a.at a.code w n (omega arith) c.value_at.ensures) (field-value a.plan.now a.at a.code w n (omega arith) c.value_at-2.ensures) (field-value a.plan.now a.at a.code w n (omega arith) c.value_at-3.ensures) (field-value a.plan.now a.at a.code w n (omega arith) c.value_at-4.ensures)
