-- `plan::reading::log_order` meets its contract: each code with an act lays its row.
use Rattle.plan.specs.Rows.{entry_row}
use Rattle.plan.proofs.Recorded.{one-row, no_row}
use Rattle.plan.proofs.Logging.{entries-cover, entries-expose, entries-request, entries_none}
use Rattle.plan.proofs.reading.log_order.Goals as goal

pub returns-then-code-eq-COVER : goal.returns-then-code-eq-COVER
returns-then-code-eq-COVER c =
    let a = c.args in
    let e = one-row a.rows.now a.acts c.lay.ensures c.cover_row.ensures (entries-cover a.settings a.order c.if-code-eq-COVER.true) in
    record { value = e.0; rows_after = e.1 }

pub returns-then-code-eq-EXPOSE : goal.returns-then-code-eq-EXPOSE
unfolding entry_row
returns-then-code-eq-EXPOSE c =
    let a = c.args in
    let act = entries-expose a.settings a.order c.if-code-eq-COVER.false c.if-code-eq-EXPOSE.true in
    let e = one-row a.rows.now a.acts c.lay-then-code-eq-EXPOSE.ensures c.settings_row.ensures act in
    record { value = e.0; rows_after = e.1 }

pub returns-then-code-eq-HOUSEKEEPING : goal.returns-then-code-eq-HOUSEKEEPING
returns-then-code-eq-HOUSEKEEPING c =
    let a = c.args in
    let act = entries-request a.settings a.order c.if-code-eq-COVER.false c.if-code-eq-EXPOSE.false c.if-code-eq-HOUSEKEEPING.true in
    let e = one-row a.rows.now a.acts c.lay-then-code-eq-HOUSEKEEPING.ensures c.request_row.ensures act in
    record { value = e.0; rows_after = e.1 }

pub returns : goal.returns
returns c =
    let a = c.args in
    let e = no_row a.rows.now a.acts (entries_none a.settings a.order c.if-code-eq-COVER.false c.if-code-eq-EXPOSE.false c.if-code-eq-HOUSEKEEPING.false) in
    record { value = e.0; rows_after = e.1 }
