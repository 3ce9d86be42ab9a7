-- `schedule::put::put_first` meets its contract. The loop's invariant: i words and their ticks have been laid.
use mathlib.Core.Path.{◌≡◌}
use Prim.Native.Nat.{◌+◌, ◌-◌}
use lib.ListN.{length, take, drop}
use lib.Seq.{sets}
use Rattle.schedule.specs.Filled.{up_from}
use Rattle.schedule.proofs.put.put_first.Given as goal

abbrev pub invariant-loop-i : goal.invariant-loop-i
invariant-loop-i g l =
    record {
      words_long : length l.words ≡ length l.initial.words;
      ticks_long : length l.ticks ≡ length l.initial.ticks;
      words_left : sets l.initial.words l.from (take g.row.N l.list) ≡ sets l.words (l.from + l.i) (take (g.row.N - l.i) (drop l.i l.list));
      ticks_left : sets l.initial.ticks l.from (up_from l.tick g.row.N) ≡ sets l.ticks (l.from + l.i) (up_from (l.tick + l.i) (g.row.N - l.i));
    }
