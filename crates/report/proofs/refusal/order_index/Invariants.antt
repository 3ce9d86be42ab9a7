-- `report::refusal::order_index` meets its contract. The loop's invariant: no order before this one is the one that is looked for.
use Rattle.report.proofs.Indexing.{Counting}
use Rattle.report.proofs.refusal.order_index.Given as goal

abbrev pub invariant-loop-index : goal.invariant-loop-index
invariant-loop-index l = Counting l.plan l.place l.at l.index
