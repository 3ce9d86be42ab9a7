-- `texts::lists::put_list_wording` meets its contract.
use Rattle.texts.proofs.Reading.{list-worded-count, list-worded-few, list-worded-length, list-worded-left}
use borrow.Author.Rules.{rules}
use Rattle.texts.proofs.lists.put_list_wording.Goals as goal

pub slice_bounds-hand_over_wording-end : goal.slice_bounds-hand_over_wording-end
slice_bounds-hand_over_wording-end c = search (rules, list-worded-count)

pub hand_over_wording-requires : goal.hand_over_wording-requires
hand_over_wording-requires c = search (rules, list-worded-few)

pub returns : goal.returns
returns c = search (rules, list-worded-length, list-worded-left)
