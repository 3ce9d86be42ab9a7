-- `explanation::put_explanation` meets its contract.
use Rattle.layout.specs.Numbers.{ascii}
use Rattle.explanation.specs.Explanation.{explanation_text}
use Rattle.explanation.proofs.put_explanation.Goals as goal

pub returns-in-StateOutOfRange : goal.returns-in-StateOutOfRange
unfolding explanation_text ascii
returns-in-StateOutOfRange c = rw c.in-StateOutOfRange.is c.put_bytes-in-StateOutOfRange.ensures
