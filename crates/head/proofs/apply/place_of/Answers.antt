-- `head::apply::place_of` meets its contract: the table is the definition's.
use mathlib.Core.Path.{refl}
use Rattle.head.specs.ByRow.{place_of}
use Rattle.head.proofs.RowSet.{place_inside}
use borrow.Author.Rules.{rules}
use Rattle.head.proofs.apply.place_of.Goals as goal

pub returns : goal.returns
unfolding place_of
returns c = record { value = refl; upper_bound = search (rules, place_inside) }
