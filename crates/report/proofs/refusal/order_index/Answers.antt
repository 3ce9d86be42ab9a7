-- `report::refusal::order_index` meets its contract. The loop's invariant: no order before this one is the one that is looked for.
use Rattle.report.proofs.Indexing.{counting-first, counting-found, counting-next, counting-last}
use mathlib.Core.Path.{◌≡◌, sym, ◌∙◌}
use native.Mathlib.Omega.{arith}
use borrow.Author.Rules.{rules}
use Rattle.report.proofs.refusal.order_index.Goals as goal

pub loop-index-init : goal.loop-index-init
loop-index-init c = search (rules, counting-first)

pub returns-then-place-at : goal.returns-then-place-at
returns-then-place-at c = search (rules, counting-found)

pub loop-index-preserved : goal.loop-index-preserved
loop-index-preserved c = search (rules, counting-next)

pub returns : goal.returns
returns c =
    let at = c.loop-index in
    let is : at.index ≡ 65 = omega arith in
    sym is ∙ counting-last at.invariant (omega arith)
