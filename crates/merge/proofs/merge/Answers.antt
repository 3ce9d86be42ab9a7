-- `merge::merge` meets its contract: the rest is of the CCD list where that has not run out, and else of the infrared list.
use borrow.Author.Rules.{rules}
use Rattle.merge.proofs.Handing.{ccd-handed, infrared-within, infrared-scaled, infrared-handed, none-handed}
use Rattle.merge.proofs.merge.Goals as goal

pub returns-then-parts-ccd-clause-result_value : goal.returns-then-parts-ccd-clause-result_value
returns-then-parts-ccd-clause-result_value c = ccd-handed _ _ _ c.in-Ok.ensures.value c.if-parts-ccd.true

pub offset_bounds-infrared-parts : goal.offset_bounds-infrared-parts
offset_bounds-infrared-parts c = search (rules, infrared-scaled)

pub slice_bounds-result-count-in-Ok : goal.slice_bounds-result-count-in-Ok
slice_bounds-result-count-in-Ok c = infrared-within _ _ _ c.in-Ok.ensures.value

pub slice_bounds-result-start-in-Ok : goal.slice_bounds-result-start-in-Ok
slice_bounds-result-start-in-Ok c = search (rules, infrared-within)

pub returns-else-parts-ccd-clause-result_value : goal.returns-else-parts-ccd-clause-result_value
returns-else-parts-ccd-clause-result_value c = infrared-handed _ _ _ c.in-Ok.ensures.value c.if-parts-ccd.false

pub returns-in-Err-clause-result_value : goal.returns-in-Err-clause-result_value
returns-in-Err-clause-result_value c = none-handed _ _ _ c.in-Err.ensures.value
