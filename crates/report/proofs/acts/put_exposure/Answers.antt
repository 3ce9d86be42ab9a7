-- `report::acts::put_exposure` meets its contract: part by part.
use Rattle.head.specs.Limits.{length_of}
use Rattle.layout.proofs.Adding.{adds_then}
use Rattle.report.specs.Acts.{exposure_text}
use Rattle.report.proofs.acts.put_exposure.Goals as goal

pub returns : goal.returns
unfolding exposure_text length_of
returns c = adds_then (rw c.acquisition_ticks-ticks.ensures at c.put_pair.ensures) c.put_settings.ensures
