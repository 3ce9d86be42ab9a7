-- `pixels::lighted` meets its contract.
use borrow.Author.Rules.{rules}
use Rattle.pixels.proofs.Maps.{lighted-length, lighted-spare, lighted-found, lighted-number}
use Rattle.pixels.proofs.lighted.Goals as goal

pub returns-then-map-ne-BYTES : goal.returns-then-map-ne-BYTES
returns-then-map-ne-BYTES c = search (rules, lighted-length, lighted-number)

pub returns-then-map-ne0 : goal.returns-then-map-ne0
returns-then-map-ne0 c = search (rules, lighted-spare, lighted-number)

pub returns : goal.returns
returns c = search (rules, lighted-found, lighted-number)
