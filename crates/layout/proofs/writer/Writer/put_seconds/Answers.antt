-- `layout::writer::Writer::put_seconds` meets its contract.
use Rattle.layout.specs.Numbers.{seconds_of}
use Rattle.layout.proofs.Adding.{adds_then}
use borrow.Author.Rules.{rules}
use Rattle.layout.proofs.writer.Writer.put_seconds.Goals as goal

pub returns : goal.returns
unfolding seconds_of
returns c = search (rules, adds_then)
