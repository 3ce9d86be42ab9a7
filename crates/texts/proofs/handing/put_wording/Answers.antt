-- `texts::handing::put_wording` meets its contract.
use Rattle.texts.proofs.Wording.{worded-count, worded-few, worded-length, worded-left}
use borrow.Author.Rules.{rules}
use Rattle.texts.proofs.handing.put_wording.Goals as goal

pub slice_bounds-hand_over_wording-end : goal.slice_bounds-hand_over_wording-end
slice_bounds-hand_over_wording-end c = search (rules, worded-count)

pub hand_over_wording-requires : goal.hand_over_wording-requires
hand_over_wording-requires c = search (rules, worded-few)

pub returns : goal.returns
returns c = search (rules, worded-length, worded-left)
