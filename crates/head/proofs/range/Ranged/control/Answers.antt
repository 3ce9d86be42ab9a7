-- `head::range::Ranged::control` meets its contract: the length of an acquisition fits.
use Rattle.head.proofs.Bounds.{length-fits}
use borrow.Author.Rules.{rules}
use Rattle.head.proofs.range.Ranged.control.Goals as goal

pub overflow_cast-busy : goal.overflow_cast-busy
overflow_cast-busy c = search (rules, length-fits)
