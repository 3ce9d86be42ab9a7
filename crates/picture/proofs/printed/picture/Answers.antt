-- `picture::printed::picture` meets its contract.
use Rattle.layout.proofs.Adding.{adds_then, adds_whole}
use Rattle.picture.proofs.Pictures.{picture-front}
use borrow.Author.Rules.{rules}
use Rattle.picture.proofs.printed.picture.Goals as goal

pub returns : goal.returns
returns c =
    let w = adds_whole c.new-writer.ensures.bytes c.new-writer.ensures.start c.len.ensures (adds_then c.put_header.ensures c.put_raster.ensures) in
    search (rules, picture-front, w)
