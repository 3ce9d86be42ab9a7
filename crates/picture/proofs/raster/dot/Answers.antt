-- `picture::raster::dot` meets its contract.
use Rattle.picture.proofs.Dots.{dot-past, dot-lit}
use borrow.Author.Rules.{rules}
use Rattle.picture.proofs.raster.dot.Goals as goal

pub returns-then-column-ge-COLUMNS : goal.returns-then-column-ge-COLUMNS
returns-then-column-ge-COLUMNS c = search (rules, dot-past)

pub returns : goal.returns
returns c = search (rules, dot-lit)
