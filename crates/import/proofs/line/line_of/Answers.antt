-- `import::line::line_of` meets its contract: a tick and a word that read as they are printed fit.
use borrow.Author.Rules.{rules}
use Rattle.import.proofs.Reading.{tick-fits, word_fits, end_fits}
use Rattle.import.proofs.line.line_of.Goals as goal

pub overflow_cast-result : goal.overflow_cast-result
overflow_cast-result c = search (rules, tick-fits)

pub overflow_cast-result-then-reads_timed : goal.overflow_cast-result-then-reads_timed
overflow_cast-result-then-reads_timed c = search (rules, word_fits)

pub overflow_cast-result-then-reads_end : goal.overflow_cast-result-then-reads_end
overflow_cast-result-then-reads_end c = search (rules, end_fits)
