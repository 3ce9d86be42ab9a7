-- `head::range::Ranged::given` meets its contract. The loop's invariant: i words have been given.
use Rattle.head.proofs.Giving.{Giving}
use Rattle.head.proofs.range.Ranged.given.Given as goal

abbrev pub invariant-loop-i : goal.invariant-loop-i
invariant-loop-i l = Giving l.words l.ticks l.initial.head.head l.initial.outcomes l.outcomes l.head.head l.i
