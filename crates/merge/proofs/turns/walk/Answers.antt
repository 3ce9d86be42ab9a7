-- `merge::turns::walk` meets its contract. The loop's invariant: the way has come to the places i and j.
use Rattle.merge.proofs.Walking.{way_next, way-over}
use borrow.Author.Rules.{rules}
use Rattle.merge.proofs.turns.walk.Goals as goal

pub loop-given-preserved : goal.loop-given-preserved
loop-given-preserved c = search (rules, way_next)

pub returns : goal.returns
returns c = search (rules, way-over)
