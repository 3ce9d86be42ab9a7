-- `head::range::within` meets its contract, number by number.
use mathlib.Core.Path.{refl}
use native.Mathlib.Omega.{arith}
use Rattle.words.specs.Kinds.{rows, greatest}
use Rattle.head.specs.ByRow.{most}
use Rattle.head.proofs.RowRange.{within_more, within_all}
use Rattle.head.proofs.range.within.Goals as goal

pub loop-i-init : goal.loop-i-init
loop-i-init c = record { some = omega arith; left = refl }

pub loop-i-preserved : goal.loop-i-preserved
loop-i-preserved c = within_more c.loop-i.invariant (omega arith) (omega arith) c.saturating_sub-excess.ensures

pub returns : goal.returns
unfolding most greatest rows
returns c = within_all c.loop-i.invariant (omega arith)
