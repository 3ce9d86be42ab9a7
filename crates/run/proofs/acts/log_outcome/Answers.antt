-- `run::acts::log_outcome` meets its contract.
use Rattle.run.specs.Run.{entries_of}
use Rattle.run.proofs.Acting.{act-none}
use Rattle.run.proofs.acts.log_outcome.Goals as goal

pub log_act-requires : goal.log_act-requires
unfolding entries_of
log_act-requires c = rw c.in-Taken.is at c.requires

pub returns-in-Taken : goal.returns-in-Taken
unfolding entries_of
returns-in-Taken c = rw c.in-Taken.is c.log_act.ensures

pub returns-in-Ignored : goal.returns-in-Ignored
unfolding entries_of
returns-in-Ignored c =
    let a = c.args in
    let p = act-none a.rows.now a.times.now a.acts a.tick {es = entries_of a.settings a.outcome} (rw c.in-Ignored.is) in
    record { value = p.0; rows_after = p.1.0; times_after = p.1.1 }
