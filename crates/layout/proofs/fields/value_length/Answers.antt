-- `layout::fields::value_length` meets its contract: a text of digits is short, so that its length fits.
use native.Mathlib.Omega.{arith}
use Rattle.layout.proofs.Decimals.{decimal-few}
use borrow.Author.Rules.{rules}
use Rattle.layout.proofs.fields.value_length.Goals as goal

pub overflow_add-result : goal.overflow_add-result
overflow_add-result c = omega (arith, decimal-few _ c.decimal_length.ensures (search rules))

pub overflow_add-result-in-37 : goal.overflow_add-result-in-37
overflow_add-result-in-37 c = omega (arith, decimal-few _ c.decimal_length-in-37.ensures (search rules))
