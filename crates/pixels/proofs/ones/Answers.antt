-- `pixels::ones` meets its contract: the chain adds up the bits of each byte.
use Rattle.std.proofs.Common.{◌≡◌, ◌∙◌, ◌<◌, ◌^◌, rules}
use Rattle.std.specs.List.{sum_by}
use Rattle.std.proofs.iter.runs.Made.{chains}
use lib.Count.{ones}
use Rattle.pixels.proofs.Maps.{bits-counted, ones-few}
use Rattle.pixels.proofs.ones.Goals as goal

pub sum-requires-clause-fits : goal.sum-requires-clause-fits
sum-requires-clause-fits c =
    let few : sum_by ones c.args.map.now < 2 ^ 32 = ones-few c.args.map.now c.type_inv.map c.requires in search (rules, chains)

pub returns : goal.returns
returns c =
    let sum : c.sum.result ≡ sum_by ones c.args.map.now = search (rules, chains) in
    sum ∙ bits-counted c.args.map.now c.type_inv.map
