-- `texts::pem_h::shabgozim_h_picture` meets its contract.
use borrow.Author.Rules.{rules}
use Rattle.texts.proofs.Handed.{front-small}
use Rattle.texts.proofs.PemH.{picture-small, unpictured-answer, unpictured-left, pictured-answer, pictured-left}
use Rattle.texts.proofs.pem_h.shabgozim_h_picture.Goals as goal

pub returns-in-Err : goal.returns-in-Err
returns-in-Err c =
    let counted = c.in-Err.ensures.number in
    record {
      value = unpictured-answer _ _ c.in-Err.error counted c.number.ensures c.packed.ensures;
      text_after = unpictured-left _ _ c.in-Err.error counted c.number.ensures;
    }

pub hand_over-requires : goal.hand_over-requires
hand_over-requires c = search (rules, front-small, picture-small)

pub returns-in-Ok : goal.returns-in-Ok
returns-in-Ok c =
    let counted = c.in-Ok.ensures.number in
    let handed = c.hand_over.ensures in
    record {
      value = pictured-answer _ _ counted c.picture-length.ensures handed.value;
      text_after = pictured-left _ _ counted c.picture-length.ensures handed.text_after;
    }
