-- `inspection::meaning::put_meaning` meets its contract.
use Rattle.inspection.proofs.Meanings.{meaning-unknown, meaning-range, meaning-data}
use borrow.Author.Rules.{rules}
use Rattle.inspection.proofs.meaning.put_meaning.Goals as goal

pub returns-in-Ok : goal.returns-in-Ok
returns-in-Ok c = search (rules, meaning-data)

pub returns-in-Err-Unknown : goal.returns-in-Err-Unknown
returns-in-Err-Unknown c = search (rules, meaning-unknown)

pub returns-in-Err-OutOfRange : goal.returns-in-Err-OutOfRange
returns-in-Err-OutOfRange c = search (rules, meaning-range)
