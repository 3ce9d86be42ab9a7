-- `layout::writer::Writer::put_decimal` meets its contract: the digits before the last one are those of a tenth of the number.
use Rattle.layout.proofs.Decimals.{adds-one, adds-more}
use Rattle.layout.proofs.writer.Writer.+put_decimal.Goals as goal
use Rattle.layout.proofs.writer.Writer.+put_decimal.Goals.{then-n-ge10, else-n-ge10}

pub returns : goal.returns
returns t c =
    elim c.if-n-ge10.branch [
      | then-n-ge10 w ↦ adds-more _ w.if-n-ge10.true w.put_decimal.ensures (rw w.self-is at c.put_byte.ensures)
      | else-n-ge10 w ↦ adds-one _ w.if-n-ge10.false (rw w.self-is at c.put_byte.ensures)
    ]
