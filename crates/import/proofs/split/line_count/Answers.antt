-- `import::split::line_count` meets its contract: a text has at most as many lines as bytes.
use borrow.Author.Rules.{rules}
use Rattle.import.proofs.Lines.{lines-few}
use Rattle.import.proofs.split.line_count.Goals as goal

pub count-requires-clause-fits : goal.count-requires-clause-fits
count-requires-clause-fits c = let few = lines-few c.args.text.now in search rules
