-- `layout::writer::Writer::put_decimal`: the measure is the number, as each call passes a tenth of it.
use Rattle.layout.proofs.writer.Writer.+put_decimal.Given as goal

abbrev pub decreases-put_decimal : goal.decreases-put_decimal
decreases-put_decimal l = l.n
