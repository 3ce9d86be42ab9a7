-- `explanation::put_out_of_range` meets its contract.
use Rattle.layout.specs.Numbers.{ascii}
use Rattle.layout.proofs.Adding.{adds_four}
use Rattle.explanation.specs.Explanation.{range_text}
use Rattle.explanation.proofs.put_out_of_range.Goals as goal

pub returns : goal.returns
unfolding range_text ascii
returns c = adds_four c.put_word.ensures c.put_bytes.ensures c.put_name.ensures c.put_byte.ensures
