-- `picture::printed::put_header` meets its contract.
use Rattle.layout.specs.Numbers.{ascii}
use Rattle.layout.proofs.Adding.{adds_three}
use Rattle.picture.specs.Picture.{header_text}
use Rattle.picture.proofs.printed.put_header.Goals as goal

pub returns : goal.returns
unfolding header_text ascii
returns c =
    adds_three (rw c.from.ensures at c.put_named.ensures) (rw c.from-2.ensures at c.put_named-2.ensures) c.put_bytes.ensures
