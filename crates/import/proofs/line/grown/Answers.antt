-- `import::line::grown` meets its contract.
use native.Mathlib.Omega.{arith}
use Rattle.import.proofs.Bytes.{value-small}
use Rattle.import.proofs.Counting.{grown-small}
use Rattle.import.proofs.line.grown.Goals as goal

pub overflow_add-base : goal.overflow_add-base
overflow_add-base c =
    let small = value-small _ c.ranges.digit.fits in
    let is = c.digit_value.ensures in
    omega (arith, grown-small c.requires.fact_1 c.requires.fact_2)
