-- `import::line::digit_value` meets its contract.
use borrow.Author.Rules.{rules}
use Rattle.import.proofs.Bytes.{letter-takes}
use Rattle.import.proofs.line.digit_value.Goals as goal

pub overflow_sub-result-2 : goal.overflow_sub-result-2
overflow_sub-result-2 c = search (rules, letter-takes)
