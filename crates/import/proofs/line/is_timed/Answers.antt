-- `import::line::is_timed` meets its contract.
use Rattle.import.proofs.Reading.{printed-long, timed-printed}
use Rattle.layout.proofs.Adding.{adds_whole}
use borrow.Author.Rules.{rules}
use Rattle.import.proofs.line.is_timed.Goals as goal

pub slice_bounds-is_text-end : goal.slice_bounds-is_text-end
slice_bounds-is_text-end c = search (rules, printed-long, adds_whole)

pub returns : goal.returns
returns c = search (rules, timed-printed, adds_whole)
