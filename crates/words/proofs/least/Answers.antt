-- `words::least` meets its contract: CCD DELAY, and the other kinds.
use borrow.Author.Rules.{rules}
use Rattle.words.proofs.Allowed.{least-delay, least-others}
use Rattle.words.proofs.least.Goals as goal

pub returns-then-kind-eq-CCD_DELAY : goal.returns-then-kind-eq-CCD_DELAY
returns-then-kind-eq-CCD_DELAY c = search (rules, least-delay)

pub returns-else-kind-eq-CCD_DELAY : goal.returns-else-kind-eq-CCD_DELAY
returns-else-kind-eq-CCD_DELAY c = search (rules, least-others)
