-- `text::lines::refusal_line` meets its contract.
use Rattle.text.proofs.Fitting.{refusal-front}
use Rattle.layout.proofs.Adding.{adds_whole}
use borrow.Author.Rules.{rules}
use Rattle.text.proofs.lines.refusal_line.Goals as goal

pub returns : goal.returns
returns c = search (rules, refusal-front, adds_whole)
