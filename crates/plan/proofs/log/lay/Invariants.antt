-- `plan::log::lay` meets its contract. The loop's invariant: i numbers of the row have been laid.
use mathlib.Core.Path.{◌≡◌}
use Prim.Native.Nat.{◌+◌, ◌≤◌}
use lib.ListN.{length, drop}
use lib.Seq.{sets}
use Rattle.plan.proofs.log.lay.Given as goal

abbrev pub invariant-loop-i : goal.invariant-loop-i
invariant-loop-i l =
    record {
      start : l.from ≤ length l.initial.rows;
      long : length l.rows ≡ length l.initial.rows;
      left : sets l.initial.rows l.from l.row ≡ sets l.rows (l.from + l.i) (drop l.i l.row);
    }
