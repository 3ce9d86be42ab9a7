-- `report::report::taken_words` meets its contract.
use mathlib.Core.Path.{refl}
use native.Mathlib.Omega.{arith}
use Rattle.report.proofs.Taken.{given-taken, prefix-long}
use Rattle.report.proofs.report.taken_words.Goals as goal

pub slice_bounds-taken_in-end : goal.slice_bounds-taken_in-end
slice_bounds-taken_in-end c = prefix-long _ _ (omega (arith, c.list.auto, c.requires))

pub returns : goal.returns
returns c = given-taken _ _ _ _ refl c.requires.fact_1 c.requires.fact_3 c.list.ensures.value c.list.ensures.outcomes_after c.taken_in.ensures
