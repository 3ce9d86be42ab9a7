-- `blocks::ccd::cosine_right` meets its contract.
use mathlib.Core.Path.{refl}
use Rattle.words.specs.Kinds.{greatest, rows}
use Rattle.blocks.specs.Ccd.{cosine_right}
use Rattle.blocks.proofs.ccd.cosine_right.Goals as goal

pub returns : goal.returns
unfolding cosine_right greatest rows
returns c = refl
