-- `interface::answers::refused_number` meets its contract.
use Rattle.interface.specs.Blocks.{refusal_answer}
use Rattle.interface.proofs.answers.refused_number.Goals as goal

pub returns : goal.returns
unfolding refusal_answer
returns c = cc
