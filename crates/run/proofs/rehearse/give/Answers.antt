-- `run::rehearse::give` meets its contract.
use Rattle.run.specs.Run.{answered, next, moment_log}
use Rattle.run.proofs.rehearse.give.Goals as goal

pub log_outcome-acts-requires : goal.log_outcome-acts-requires
unfolding moment_log
log_outcome-acts-requires c = rw c.word-answered.ensures.value c.requires

pub returns : goal.returns
unfolding next answered moment_log
returns c =
    let word = c.word-answered.ensures.value in
    let log = rw word at c.log_outcome-acts.ensures in
    record {
      head_value = simp (c.tick-ticked.ensures.value, word);
      acts_value = log.value;
      rows_after = log.rows_after;
      times_after = log.times_after;
    }
