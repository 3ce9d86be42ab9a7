-- `interface::answers::due_number` meets its contract.
use Rattle.interface.proofs.Numbers.{nothing-due, blocks-due, tick-refused}
use borrow.Author.Rules.{rules}
use Rattle.interface.proofs.answers.due_number.Goals as goal

pub returns-in-Nothing : goal.returns-in-Nothing
returns-in-Nothing c = search (rules, nothing-due)

pub returns-in-Blocks : goal.returns-in-Blocks
returns-in-Blocks c = search (rules, blocks-due)

pub returns-in-Refused : goal.returns-in-Refused
returns-in-Refused c = search (rules, tick-refused)
