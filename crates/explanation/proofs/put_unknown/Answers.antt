-- `explanation::put_unknown` meets its contract.
use Rattle.layout.specs.Numbers.{ascii}
use Rattle.layout.proofs.Adding.{adds_then}
use Rattle.explanation.specs.Explanation.{unknown_text}
use Rattle.explanation.proofs.put_unknown.Goals as goal

pub returns : goal.returns
unfolding unknown_text ascii
returns c = adds_then c.put_word.ensures c.put_byte.ensures
