-- `run::acts::log_act` meets its contract: each act but none puts its row and its tick.
use native.Mathlib.Omega.{arith}
use Rattle.plan.specs.Reading.{exposure}
use Rattle.plan.specs.Rows.{entry_row}
use Rattle.run.specs.Run.{entry_of}
use Rattle.run.proofs.Acting.{act-put, act-none}
use Rattle.run.proofs.acts.log_act.Goals as goal

pub put_act-requires : goal.put_act-requires
unfolding entry_of
put_act-requires c = let room = rw c.in-Exposure.is at c.requires in omega arith

pub put_act-requires-in-Request : goal.put_act-requires-in-Request
unfolding entry_of
put_act-requires-in-Request c = let room = rw c.in-Request.is at c.requires in omega arith

pub put_act-requires-in-Cover : goal.put_act-requires-in-Cover
unfolding entry_of
put_act-requires-in-Cover c = let room = rw c.in-Cover.is at c.requires in omega arith

pub returns-in-None : goal.returns-in-None
unfolding entry_of
returns-in-None c =
    let a = c.args in
    let p = act-none a.rows.now a.times.now a.acts a.tick {es = entry_of a.settings a.act} (rw c.in-None.is) in
    record { value = p.0; rows_after = p.1.0; times_after = p.1.1 }

pub returns-in-Exposure : goal.returns-in-Exposure
unfolding entry_of entry_row
returns-in-Exposure c =
    let a = c.args in
    let put = c.put_act.ensures in
    let p = act-put a.rows.now a.times.now a.acts a.tick {e = exposure a.settings} {es = entry_of a.settings a.act} (rw c.in-Exposure.is) c.settings_row.ensures (put.value, (put.rows_after, put.times_after)) in
    record { value = p.0; rows_after = p.1.0; times_after = p.1.1 }

pub returns-in-Request : goal.returns-in-Request
unfolding entry_of
returns-in-Request c =
    let a = c.args in
    let put = c.put_act-in-Request.ensures in
    let p = act-put a.rows.now a.times.now a.acts a.tick {es = entry_of a.settings a.act} (rw c.in-Request.is) c.request_row.ensures (put.value, (put.rows_after, put.times_after)) in
    record { value = p.0; rows_after = p.1.0; times_after = p.1.1 }

pub returns-in-Cover : goal.returns-in-Cover
unfolding entry_of
returns-in-Cover c =
    let a = c.args in
    let put = c.put_act-in-Cover.ensures in
    let p = act-put a.rows.now a.times.now a.acts a.tick {es = entry_of a.settings a.act} (rw c.in-Cover.is) c.cover_row-row.ensures (put.value, (put.rows_after, put.times_after)) in
    record { value = p.0; rows_after = p.1.0; times_after = p.1.1 }
