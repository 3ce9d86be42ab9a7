-- `layout::writer::Writer::put_named` meets its contract.
use Rattle.layout.proofs.Adding.{adds_then}
use borrow.Author.Rules.{rules}
use Rattle.layout.proofs.writer.Writer.put_named.Goals as goal

pub returns : goal.returns
returns c = search (rules, adds_then)
