-- `picture::refusal::put_refusal` meets its contract.
use Rattle.layout.specs.Numbers.{ascii}
use Rattle.picture.specs.Printed.{refusal_template, refusal_text}
use Rattle.picture.proofs.refusal.put_refusal.Goals as goal

pub returns : goal.returns
unfolding refusal_text refusal_template ascii
returns c = rw (← c.from.ensures, ← (rw (← c.from.ensures) at c.reason_index.ensures)) c.put_template.ensures
