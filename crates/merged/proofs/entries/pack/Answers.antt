-- `merged::entries::pack` meets its contract.
use borrow.Author.Rules.{rules}
use Rattle.merged.proofs.Packing.{packing-first, packing-next, packed}
use Rattle.merged.proofs.entries.pack.Goals as goal

pub loop-i-init : goal.loop-i-init
loop-i-init c = search (rules, packing-first)

pub loop-i-preserved : goal.loop-i-preserved
loop-i-preserved c = search (rules, packing-next)

pub returns : goal.returns
returns c = search (rules, packed)
