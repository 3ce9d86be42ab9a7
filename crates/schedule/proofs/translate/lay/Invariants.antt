-- `schedule::translate::lay` meets its contract. The loop's invariant: k orders have been judged and laid.
use Prim.Native.Nat.{◌-◌}
use lib.ListN.{length}
use Rattle.schedule.proofs.OnePass.{Passing}
use Rattle.schedule.proofs.translate.lay.Given as goal

abbrev pub invariant-loop-at : goal.invariant-loop-at
invariant-loop-at l = Passing l.initial.words l.initial.ticks l.plan l.initial.clock l.words l.ticks l.at l.next l.clock l.k

abbrev pub decreases-loop-at : goal.decreases-loop-at
decreases-loop-at l = length l.plan - l.at
