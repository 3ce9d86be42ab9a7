-- `layout::writer::Writer::put_template` meets its contract: the template from its ith byte on is left.
use mathlib.Core.Path.{refl}
use Rattle.layout.proofs.Filling.{filling-first, filling-next, filled}
use borrow.Author.Rules.{rules}
use Rattle.layout.proofs.writer.Writer.put_template.Goals as goal

pub loop-i-init : goal.loop-i-init
loop-i-init c = search (rules, filling-first)

pub loop-i-preserved : goal.loop-i-preserved
loop-i-preserved c =
    filling-next c.loop-i.invariant (search rules) refl c.byte_at-next.ensures (search rules) (search rules) c.put_piece.ensures c.moved-cursor.ensures

pub returns : goal.returns
returns c = search (rules, filled)
