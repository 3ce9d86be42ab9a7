-- `import::line::is_text` meets its contract: each byte stands for the one that is printed at its place.
use mathlib.Core.Path.{◌∙◌}
use Rattle.std.proofs.Common.{rules, tests}
use Rattle.std.proofs.lemmas.Iterator.{YieldsList-from_slice, YieldsList-from_zip}
use Rattle.std.proofs.lemmas.Iterator.Search.{all_from_yields_List}
use Rattle.import.specs.Line.{stands_for}
use Rattle.import.proofs.Comparing.{text-apart, text-zipped}
use Rattle.import.proofs.line.is_text.Goals as goal

pub returns-then-line-printed : goal.returns-then-line-printed
returns-then-line-printed c = search (rules, text-apart)

pub returns : goal.returns
returns c =
    let line = YieldsList-from_slice c.args.line.now (cc) in
    let printed = YieldsList-from_slice c.args.printed.now (cc) in
    all_from_yields_List (λ p. stands_for p.0 p.1) c.all.new.self _ c.all.result c.all.ensures.ran (YieldsList-from_zip {s = c.zip.result} line printed) (λ x b q k. search (rules, tests))
    ∙ text-zipped _ _ c.if-line-printed.false
