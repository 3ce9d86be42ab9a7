-- `inspection::notes::put_motion` meets its contract.
use Rattle.inspection.proofs.Noting.{written-motion}
use Rattle.inspection.specs.Notes.{mirror_template, cover_moves_template}
use Rattle.head.specs.Numbers.{outcome_number}
use Rattle.layout.specs.Numbers.{ascii}
use Rattle.inspection.proofs.notes.put_motion.Goals as goal

pub returns : goal.returns
unfolding mirror_template cover_moves_template ascii
returns c =
    written-motion
    (outcome_number c.args.outcome)
    c.args.mirror
    c.args.cover
    c.is_exposure-exposes.ensures
    c.bit-mirror_moves.ensures
    c.put_template.ensures
    c.bit-cover_moves.ensures
    c.put_template-2.ensures
