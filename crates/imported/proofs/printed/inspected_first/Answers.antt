-- `imported::printed::inspected_first` meets its contract.
use Rattle.imported.proofs.Printing.{first-long}
use borrow.Author.Rules.{rules}
use Rattle.imported.proofs.printed.inspected_first.Goals as goal

pub slice_bounds-inspected-end : goal.slice_bounds-inspected-end
slice_bounds-inspected-end c = search (rules, first-long)

pub slice_bounds-inspected-end-2 : goal.slice_bounds-inspected-end-2
slice_bounds-inspected-end-2 c = search (rules, first-long)
