-- `picture::printed::printed` meets its contract.
use Rattle.std.proofs.Common.{rules}
use Rattle.layout.proofs.Adding.{adds_whole}
use Rattle.picture.proofs.Pictures.{printed-picture, printed-refusal}
use Rattle.picture.proofs.printed.printed.Goals as goal

pub returns-in-Ok : goal.returns-in-Ok
returns-in-Ok c = search (rules, printed-picture)

pub returns-in-Err : goal.returns-in-Err
returns-in-Err c = printed-refusal c.args.map.now c.lighted.result c.lighted.ensures.number c.in-Err.is (search rules) (rw c.number.ensures at (adds_whole c.new-writer.ensures.bytes c.new-writer.ensures.start c.len.ensures c.put_refusal.ensures))
