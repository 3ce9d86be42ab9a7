-- `texts::two_operators::put_words` meets its contract.
use Rattle.merged.proofs.Wording.{refusal-few}
use Rattle.texts.proofs.OneLine.{words_count, words-few, words-length, words_left_lem}
use borrow.Author.Rules.{rules}
use Rattle.texts.proofs.two_operators.put_words.Goals as goal

pub slice_bounds-hand_over_wording-end : goal.slice_bounds-hand_over_wording-end
slice_bounds-hand_over_wording-end c = search (rules, words_count, refusal-few)

pub hand_over_wording-requires : goal.hand_over_wording-requires
hand_over_wording-requires c = search (rules, words-few, refusal-few)

pub returns : goal.returns
returns c = search (rules, words-length, words_left_lem, refusal-few)
