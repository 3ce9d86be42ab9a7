-- `imported::printed::read_whole` meets its contract.
use Rattle.imported.proofs.Printing.{whole-answer, whole_words, whole-ticks}
use borrow.Author.Rules.{rules}
use Rattle.imported.proofs.printed.read_whole.Goals as goal

pub returns : goal.returns
returns c =
    record {
      value = search (rules, whole-answer);
      words_after = search (rules, whole_words);
      ticks_after = search (rules, whole-ticks);
    }
