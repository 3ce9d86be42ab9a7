-- `texts::shabgozim_read_list` meets its contract.
use Rattle.texts.proofs.Reading.{read_small, read_answer_lem, words_left_lem, ticks-left}
use borrow.Author.Rules.{rules}
use Rattle.texts.proofs.shabgozim_read_list.Goals as goal

pub read_number-requires : goal.read_number-requires
read_number-requires c = search (rules, read_small)

pub returns : goal.returns
returns c =
    record {
      value = search (rules, read_answer_lem);
      words_after = search (rules, words_left_lem);
      ticks_after = search (rules, ticks-left);
    }
