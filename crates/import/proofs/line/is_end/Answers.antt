-- `import::line::is_end` meets its contract.
use Rattle.import.proofs.Reading.{printed-long, end-printed}
use Rattle.layout.specs.Numbers.{ascii}
use Rattle.text.specs.Lines.{end_text}
use Rattle.layout.proofs.Adding.{adds_whole}
use borrow.Author.Rules.{rules}
use Rattle.import.proofs.line.is_end.Goals as goal

pub slice_bounds-is_text-end : goal.slice_bounds-is_text-end
slice_bounds-is_text-end c = search (rules, printed-long, adds_whole)

pub returns : goal.returns
unfolding end_text ascii
returns c = search (rules, end-printed, adds_whole)
