-- `interface::readings::put_ccd` meets its contract.
use Rattle.interface.specs.Blocks.{ccd_said_numbers}
use Rattle.interface.proofs.Storing.{three-groups}
use borrow.Author.Rules.{rules}
use Rattle.interface.proofs.readings.put_ccd.Goals as goal

pub returns : goal.returns
unfolding ccd_said_numbers
returns c = search (rules, three-groups)
