-- `layout::numbers::decimal_length`: the measure is the number, as each call passes a tenth of it.
use Rattle.layout.proofs.numbers.+decimal_length.Given as goal

abbrev pub decreases-decimal_length : goal.decreases-decimal_length
decreases-decimal_length l = l.n
