-- `explanation::put_out_of_turn` meets its contract.
use Rattle.layout.specs.Numbers.{ascii}
use Rattle.layout.proofs.Adding.{adds_three}
use Rattle.explanation.specs.Explanation.{turn_text}
use Rattle.explanation.proofs.put_out_of_turn.Goals as goal

pub returns : goal.returns
unfolding turn_text ascii
returns c = adds_three c.put_bytes.ensures c.put_name.ensures c.put_bytes-2.ensures
