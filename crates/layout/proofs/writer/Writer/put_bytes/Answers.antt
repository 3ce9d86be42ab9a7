-- `layout::writer::Writer::put_bytes` meets its contract.
use borrow.Author.Rules.{rules}
use Rattle.layout.proofs.Adding.{partly-first}
use Rattle.layout.proofs.Copying.{copying-next, copied}
use Rattle.layout.proofs.writer.Writer.put_bytes.Goals as goal

pub loop-byte-init : goal.loop-byte-init
loop-byte-init c = search (rules, partly-first)

pub loop-byte-preserved : goal.loop-byte-preserved
loop-byte-preserved c = search (rules, copying-next)

pub returns : goal.returns
returns c = search (rules, copied)
