-- `layout::numbers::decimal_length` meets its contract: one digit more than a tenth of the number has.
use native.Mathlib.Omega.{arith}
use borrow.Author.Rules.{rules}
use Rattle.layout.proofs.Decimals.{length-one, length_more, decimal-few}
use Rattle.layout.proofs.numbers.+decimal_length.Goals as goal

pub returns-then-n-lt10 : goal.returns-then-n-lt10
returns-then-n-lt10 t c = search (rules, length-one)

pub overflow_add-result : goal.overflow_add-result
overflow_add-result t c = omega (arith, decimal-few _ c.decimal_length.ensures (search rules))

pub returns : goal.returns
returns t c = search (rules, length_more)
