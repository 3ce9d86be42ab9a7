-- `texts::why::put_line` meets its contract.
use Rattle.texts.proofs.OneLine.{words_count, words-few, words-length, words_left_lem}
use Rattle.texts.proofs.Unpacking.{line-few}
use borrow.Author.Rules.{rules}
use Rattle.texts.proofs.why.put_line.Goals as goal

pub slice_bounds-hand_over_wording-end : goal.slice_bounds-hand_over_wording-end
slice_bounds-hand_over_wording-end c = search (rules, words_count, line-few)

pub hand_over_wording-requires : goal.hand_over_wording-requires
hand_over_wording-requires c = search (rules, words-few, line-few)

pub returns : goal.returns
returns c = search (rules, words-length, words_left_lem, line-few)
