-- `picture::raster::eight_from` meets its contract.
use borrow.Author.Rules.{rules}
use Rattle.picture.proofs.Bytes.{bits_none, bits-next, twice-fits, next_fits, bits-done}
use Rattle.picture.proofs.raster.eight_from.Goals as goal

pub loop-j-init : goal.loop-j-init
loop-j-init c = search (rules, bits_none)

pub overflow_mul-byte : goal.overflow_mul-byte
overflow_mul-byte c = search (rules, twice-fits)

pub overflow_add-byte : goal.overflow_add-byte
overflow_add-byte c = search (rules, next_fits)

pub loop-j-preserved : goal.loop-j-preserved
loop-j-preserved c = search (rules, bits-next)

pub returns : goal.returns
returns c = search (rules, bits-done)
