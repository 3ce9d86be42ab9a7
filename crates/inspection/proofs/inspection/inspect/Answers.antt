-- `inspection::inspection::inspect` meets its contract.
use Rattle.inspection.proofs.Ending.{done-answer, done-bytes}
use Rattle.inspection.proofs.inspection.inspect.Goals as goal

pub returns : goal.returns
returns c =
    let listed = c.in-Some.list.listed in
    let same = c.in-Some.ensures.value in
    let counts = c.count_words-counts.ensures in
    let text = c.write_inspection-length.ensures in
    record {
      value = done-answer _ _ _ _ _ listed same.0 same.1 _ counts text;
      out_after = done-bytes _ _ _ _ _ listed same.0 same.1 _ counts text;
    }
