-- `interface::state::put` meets its contract.
use Rattle.interface.proofs.Storing.{put-copied}
use Rattle.interface.proofs.state.put.Goals as goal

pub returns : goal.returns
returns c = put-copied c.args.s.now c.args.numbers.now c.args.at c.copy_from_slice.new.self c.copy_from_slice.ensures.after c.requires
