-- `run::rehearse::run_words` meets its contract. The loop's invariant: i words have been given.
use Rattle.run.proofs.Rehearsing.{Running}
use Rattle.run.proofs.rehearse.run_words.Given as goal

abbrev pub invariant-loop-i : goal.invariant-loop-i
invariant-loop-i l =
    Running l.words l.ticks l.count l.end l.initial.state l.initial.rows l.initial.times l.rows l.times l.state l.clock l.acts l.i
