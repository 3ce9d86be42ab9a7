-- `head::range::Ranged::given` meets its contract. The loop's invariant: i words have been given.
use Rattle.head.proofs.Giving.{giving-first, giving-next, giving-head, giving-written}
use borrow.Author.Rules.{rules}
use Rattle.head.proofs.range.Ranged.given.Goals as goal

pub loop-i-init : goal.loop-i-init
loop-i-init c = search (rules, giving-first)

pub loop-i-preserved : goal.loop-i-preserved
loop-i-preserved c = search (rules, giving-next)

pub returns : goal.returns
returns c = search (rules, giving-head, giving-written)
