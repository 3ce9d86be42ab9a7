-- `import::split::Lines` yields the lines of the text.
use borrow.Author.Rules.{rules}
use Rattle.import.proofs.Lines.{lines-found, lines_last, lines_none, lines_fewer}
use Rattle.import.proofs.split.LinesIterator.next.Goals as goal

pub returns-then-is_empty-clause-steps : goal.returns-then-is_empty-clause-steps
returns-then-is_empty-clause-steps c = search (rules, lines_none)

pub returns-in_default-clause-steps : goal.returns-in_default-clause-steps
returns-in_default-clause-steps c = search (rules, lines_last)

pub returns-in_default-clause-goes : goal.returns-in_default-clause-goes
returns-in_default-clause-goes c = search (rules, lines_fewer, lines_last)

pub returns-clause-steps : goal.returns-clause-steps
returns-clause-steps c = search (rules, lines-found)

pub returns-clause-goes : goal.returns-clause-goes
returns-clause-goes c =
    let fewer = lines_fewer (lines-found c.args.self.now.rest.now c.in-Some.ensures) in
    search rules
