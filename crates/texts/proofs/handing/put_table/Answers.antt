-- `texts::handing::put_table` meets its contract.
use Rattle.names.proofs.Fitting.{table-small}
use Rattle.texts.proofs.Handed.{front-small}
use Rattle.texts.proofs.Wording.{handed-answer, handed-left}
use borrow.Author.Rules.{rules}
use Rattle.texts.proofs.handing.put_table.Goals as goal

pub hand_over-requires : goal.hand_over-requires
hand_over-requires c = search (rules, front-small, table-small)

pub returns : goal.returns
returns c = search (rules, handed-answer, handed-left)
