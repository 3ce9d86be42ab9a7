-- `schedule::translate::copy_out` meets its contract. The loop's invariant: i words and their ticks have been copied.
use Rattle.schedule.proofs.Copying.{Copying}
use Rattle.schedule.proofs.translate.copy_out.Given as goal

abbrev pub invariant-loop-i : goal.invariant-loop-i
invariant-loop-i l =
    record {
      words_copied : Copying l.initial.words l.sent l.count l.words l.i;
      ticks_copied : Copying l.initial.ticks l.times l.count l.ticks l.i;
    }
